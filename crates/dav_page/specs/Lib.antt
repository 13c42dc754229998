pub mod Pages
pub mod Sizes
pub mod Listed
pub mod Index
pub mod Cuts
