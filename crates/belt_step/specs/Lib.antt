-- The definitions of `belt_step`.
pub mod Line
