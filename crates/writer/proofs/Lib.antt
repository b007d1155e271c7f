pub mod Frames
pub mod Judging
pub mod Output
pub mod Typed
pub mod Unique
