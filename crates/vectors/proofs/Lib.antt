-- The laws of `vectors`.
pub mod Ended
