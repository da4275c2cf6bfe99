pub mod FactParts
pub mod Calls
pub mod Recorded
pub mod Escaping
pub mod OwnTexts
pub mod ShowExcluded
mod CarefulExcluded
mod CarefulRuns
