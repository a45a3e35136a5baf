-- The laws of `page_view`.
pub mod Answers
pub mod Lookup
pub mod FrameLaws
pub mod Loads
