pub mod Sayings
pub mod Entries
pub mod Steps
pub mod Unique
