pub mod Asked
pub mod Record
pub mod Paper
