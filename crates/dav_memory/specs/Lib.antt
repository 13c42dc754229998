pub mod Trees
pub mod Entries
pub mod Calls
pub mod Memory
pub mod Builder
