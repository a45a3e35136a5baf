-- The definitions of `expected`, in the order to read them; Code has a helper of the code's contracts.
pub mod Expected
pub mod Code
