-- The laws of `words`.
pub mod Cases
pub mod Conjunction
pub mod Counts
pub mod Every
pub mod Integers
pub mod SignExtension
