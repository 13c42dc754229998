pub mod Names
pub mod Table
pub mod Characters
pub mod Escapes
pub mod Grammar
pub mod Running
pub mod Progress
pub mod Decoding
