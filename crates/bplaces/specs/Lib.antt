pub mod ColumnRows
pub mod Columns
pub mod Units
pub mod UnitRows
