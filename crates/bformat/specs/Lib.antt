pub mod Pieces
pub mod Readings
pub mod Formats
pub mod PieceRows
pub mod FormatRows
pub mod FormatExcluded
