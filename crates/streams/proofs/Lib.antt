pub mod Cuttings
pub mod Leading
pub mod Missing
pub mod Pushes
pub mod Readings
pub mod States
pub mod Unique
