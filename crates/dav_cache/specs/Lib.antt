pub mod Core
pub mod Listings
pub mod Transparency
