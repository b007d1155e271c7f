pub mod Write
pub mod Paper
