-- The laws of `control`.
pub mod Targets
