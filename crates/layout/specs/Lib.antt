pub mod Kind
pub mod Layout
pub mod Group
pub mod Paper
