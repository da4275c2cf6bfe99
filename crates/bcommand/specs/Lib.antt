pub mod CommandLine
pub mod CommandRows
pub mod OptionRows
pub mod OriginRows
pub mod Rows
