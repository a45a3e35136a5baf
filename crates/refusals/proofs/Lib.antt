-- The laws of `refusals`.
pub mod FirstFailed
pub mod Cause
pub mod Lengths
pub mod Numbers
