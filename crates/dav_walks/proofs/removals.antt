pub mod RemovalOrder
pub mod RemovalsAllowed
pub mod WorkCovers
pub mod RemovalDoesActs
pub mod OneFileRemoved
