-- The laws of `status`.
pub mod PswLaws
