pub mod Simple
pub mod Ruled
pub mod LocalStore
pub mod Sealed
pub mod Loosely
pub mod ReadsByRules
