-- The definitions of `endian`.
pub mod BigEndian
