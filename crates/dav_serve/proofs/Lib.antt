pub mod NumbersAreSaid
pub mod WordRows
pub mod OneIsSaid
pub mod Prefixes
pub mod OverDisks
