pub mod Between
pub mod Found
pub mod Free
pub mod Hundredths
pub mod PageOnce
pub mod PagesRead
mod PageRows
pub mod Written
pub mod Shown
pub mod Whole
pub mod Calendar
pub mod RowsWritten
mod Bare
pub mod Crumbs
pub mod PageMade
pub mod Inside
pub mod Reader
pub mod SizeForms
pub mod Strips
pub mod Values
