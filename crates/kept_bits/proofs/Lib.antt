-- The laws of `kept_bits`.
pub mod KeptLaws
pub mod OnlyLaws
