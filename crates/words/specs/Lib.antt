-- The definitions of `words`, in the order to read them.
pub mod Numbers
pub mod Logic
pub mod Lists
pub mod Identifiers
