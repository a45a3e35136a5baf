-- The definitions of `arrays`.
pub mod Numbers
