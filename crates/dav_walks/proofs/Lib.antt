pub mod trees
pub mod removals
pub mod copies
pub mod calls
pub mod steps
