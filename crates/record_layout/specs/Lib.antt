-- The definitions of `record_layout`, in the order to read them.
pub mod Layout
pub mod Record
