pub mod Sessions
pub mod Running
