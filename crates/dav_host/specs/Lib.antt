pub mod Entries
pub mod Host
pub mod Kinds
pub mod Listings
pub mod Places
pub mod Refusals
