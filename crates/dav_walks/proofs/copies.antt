pub mod CopyOrder
pub mod CopyCovers
pub mod CopyPlaces
pub mod WhileCopied
pub mod CopyAsked
pub mod CopyDoesActs
pub mod CopyIntoHidden
