-- The definitions of `belt_text`, in the order to read them.
pub mod Line
pub mod Text
