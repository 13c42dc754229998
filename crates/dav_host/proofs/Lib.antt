pub mod Listers
pub mod PassedNames
pub mod PathTexts
pub mod Places
