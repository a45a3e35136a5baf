-- The definitions of `control`, in the order to read them.
pub mod Branches
pub mod Control
