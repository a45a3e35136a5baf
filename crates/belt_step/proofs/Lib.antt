-- The laws of `belt_step`.
pub mod LineLaws
