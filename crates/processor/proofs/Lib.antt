-- The laws of `processor`.
pub mod EntryLaws
pub mod FitLaws
pub mod FitKept
pub mod RegisterLaws
