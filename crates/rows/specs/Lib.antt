pub mod Row
pub mod Held
pub mod Gap
pub mod Shift
