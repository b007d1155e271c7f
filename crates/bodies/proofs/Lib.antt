pub mod Bodies
pub mod Numbers
pub mod Parts
pub mod Round
pub mod Shift
pub mod Stores
pub mod Tests
