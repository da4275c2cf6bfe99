pub mod Tallies
pub mod Marks
pub mod SourceLines
pub mod Tables
pub mod Counts
pub mod CountExcluded
pub mod Together
pub mod CountRows
