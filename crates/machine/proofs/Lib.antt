-- The laws of `machine`.
pub mod Tests
pub mod Representing
