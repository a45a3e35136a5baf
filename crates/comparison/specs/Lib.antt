-- The definitions of `comparison`.
pub mod Comparison
