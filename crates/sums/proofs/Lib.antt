-- The laws of `sums`.
pub mod Differences
pub mod Product
pub mod Examples
pub mod Sizes
