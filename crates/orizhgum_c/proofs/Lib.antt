pub mod Exports
pub mod Exported
