pub mod Announcing
pub mod RangeRows
pub mod Within
pub mod Framing
pub mod WriteReplies
pub mod Nonempty
pub mod PollsShrink
pub mod JoiningLemmas
pub mod Courses
pub mod LooseWalks
pub mod Headline
pub mod Denied
pub mod RightReplies
pub mod WorldsCouldShow
pub mod PlainWalks
pub mod FieldValues
pub mod WellFormedReplies
pub mod GateStatuses
pub mod WellFormedRuns
pub mod NoneUnder
pub mod StillSteps
mod AskedOnce
mod CarryPlanRows
mod RemovalPlanRows
