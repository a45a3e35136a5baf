-- The definitions of `record_calls`, in the order to read them.
pub mod Records
pub mod Views
