-- The definitions of `actions`.
pub mod Actions
