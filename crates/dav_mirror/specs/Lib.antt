pub mod Asking
pub mod Seen
pub mod Playing
pub mod Came
pub mod Lines
pub mod Report
pub mod Mirrors
