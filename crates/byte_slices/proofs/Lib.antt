-- The laws of `bytes`.
pub mod SameLaws
