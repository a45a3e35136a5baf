-- The laws of `tlb`.
pub mod Sizes
pub mod Replacement
pub mod Lowest
