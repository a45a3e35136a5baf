-- The definitions of `sums`.
pub mod Sums
