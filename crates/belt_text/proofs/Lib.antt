-- The laws of `belt_text`.
pub mod LineLaws
pub mod TextLaws
