pub mod Keys
pub mod Lists
pub mod Order
pub mod Keeping
mod AsciiFolding
