-- The laws of `charges`.
pub mod Largest
