pub mod LineRows
pub mod CarryRows
