-- The laws of `load_store`.
mod Widths
