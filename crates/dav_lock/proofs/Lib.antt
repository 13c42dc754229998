pub mod Entries
pub mod Forests
pub mod Weights
pub mod Opened
pub mod Copies
pub mod Waiting
