pub mod plans
pub mod tables
mod rows
pub mod texts
