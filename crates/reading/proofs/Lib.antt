-- The laws of `reading`.
pub mod Filling
