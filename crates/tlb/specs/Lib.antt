-- The definitions of `tlb`, in the order to read them.
pub mod Lookup
pub mod Found
