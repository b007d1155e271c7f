pub mod Cutting
pub mod Leads
pub mod Missing
pub mod Paper
pub mod Steps
pub mod Stream
