pub mod Texts
pub mod Folded
pub mod Cards
pub mod Properties
pub mod Calendars
