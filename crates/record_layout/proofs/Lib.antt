-- The laws of `record_layout`.
pub mod Fields
pub mod KindLaws
pub mod Written
