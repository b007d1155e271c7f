pub mod Choice
pub mod Counted
pub mod Gathered
pub mod Grouped
pub mod Had
pub mod Tell
pub mod Unique
