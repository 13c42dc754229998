pub mod Names
pub mod Tree
pub mod Asking
pub mod Totals
pub mod Counting
pub mod Running
pub mod Report
pub mod Making
