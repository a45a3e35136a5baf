-- The laws of `instructions`.
pub mod Arms
pub mod Coding
pub mod Words
