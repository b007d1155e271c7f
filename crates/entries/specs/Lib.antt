pub mod Entry
pub mod Paper
