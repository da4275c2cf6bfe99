pub mod AuthorFiles
pub mod NameLines
pub mod NameFiles
pub mod LineFiles
pub mod Readers
pub mod Written
mod NameRows
mod LineRows
