pub mod Lines
pub mod Pouring
pub mod Reading
pub mod Removing
pub mod Copying
pub mod Weights
pub mod Walking
pub mod Follows
