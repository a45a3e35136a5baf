-- The definitions of `timer`.
pub mod Timer
