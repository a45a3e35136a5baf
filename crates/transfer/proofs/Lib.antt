-- The laws of `transfer`.
pub mod Loads
