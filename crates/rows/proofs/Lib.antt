pub mod Row
pub mod Found
pub mod Begin
pub mod Shift
pub mod Moved
