-- The definitions of `page_view`, in the order to read them.
pub mod View
pub mod Part
pub mod Code
