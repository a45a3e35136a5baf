-- The laws of `isolation`.
pub mod UserActions
pub mod SameActions
pub mod SameLooks
pub mod SameStores
pub mod UserStep
pub mod TraceLaws
pub mod Entries
pub mod Lift
pub mod Runs
pub mod Isolation
pub mod ListLaws
