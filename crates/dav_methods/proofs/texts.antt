pub mod WordsJoined
pub mod Addresses
pub mod Overlaps
