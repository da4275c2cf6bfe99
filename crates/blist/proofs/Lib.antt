pub mod AddedRows
pub mod ListExcluded
pub mod CodeListExcluded
pub mod Spots
