-- The definitions of `acceptance`.
pub mod Claim
