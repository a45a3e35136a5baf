-- The laws of `endian`.
pub mod Widths
