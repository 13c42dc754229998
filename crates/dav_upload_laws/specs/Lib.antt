pub mod Written
pub mod Passing
pub mod Swept
pub mod Reading
