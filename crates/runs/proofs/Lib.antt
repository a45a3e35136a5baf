-- The laws of `runs`.
pub mod Refused
pub mod RunLaws
