pub mod Gaps
pub mod Limits
pub mod Channel
pub mod History
pub mod Built
pub mod Record
