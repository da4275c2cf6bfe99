pub mod Tokens
pub mod CheckRows
pub mod Checks
pub mod ChangesExcluded
pub mod CheckExcluded
pub mod Counts
pub mod Findings
pub mod Mentions
pub mod Pieces
pub mod Right
pub mod RuleWarnings
mod BoundaryRows
pub mod Boundaries
pub mod SectionRows
pub mod Sections
pub mod Spares
pub mod UndefinedNames
pub mod UndefinedRows
