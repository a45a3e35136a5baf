-- The definitions of `kept_bits`.
pub mod Kept
pub mod Code
