pub mod ColumnSteps
pub mod UnitSteps
