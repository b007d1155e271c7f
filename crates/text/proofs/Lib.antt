pub mod Decimals
pub mod Pieces
