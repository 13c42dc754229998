pub mod PathsPending
pub mod WorkGetsLighter
pub mod RemovesByTable
pub mod CopiesByTable
pub mod MembersRead
pub mod PiecesWritten
