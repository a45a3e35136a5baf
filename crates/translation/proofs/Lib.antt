-- The laws of `translation`.
pub mod Resolved
pub mod Granted
pub mod Slots
