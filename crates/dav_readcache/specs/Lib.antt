pub mod Cached
pub mod CachedStays
pub mod Opening
pub mod Shelf
pub mod Sound
pub mod Store
