pub mod Join
pub mod Meet
pub mod Rows
