-- The theorems of `acceptance`.
pub mod Causes
pub mod NeverRefused
pub mod OneStep
pub mod Taken
