-- The definitions of `compute`.
pub mod Compute
