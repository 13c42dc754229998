pub mod Storing
pub mod Whole
pub mod Ending
pub mod Words
pub mod Performs
