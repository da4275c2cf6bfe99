pub mod Cutting
pub mod Noticed
pub mod ProgramRows
pub mod SourceTokens
pub mod Told
pub mod Warns
