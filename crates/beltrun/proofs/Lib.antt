-- The laws of `beltrun`.
pub mod Lengths
