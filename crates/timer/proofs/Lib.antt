-- The laws of `timer`.
pub mod Registers
pub mod Ticking
