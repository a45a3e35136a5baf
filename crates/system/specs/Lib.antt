-- The definitions of `system`.
pub mod System
pub mod Code
