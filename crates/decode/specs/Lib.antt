-- The definitions of `decode`.
pub mod Table
