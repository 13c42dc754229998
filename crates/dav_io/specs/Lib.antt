pub mod Counts
pub mod Told
pub mod Outside
pub mod Sure
pub mod Appending
pub mod Schedules
pub mod Texts
pub mod Values
