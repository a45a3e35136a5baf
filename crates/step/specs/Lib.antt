-- The definitions of `step`.
pub mod Step
