pub mod BindingSteps
pub mod DefinitionNames
pub mod DefinitionRows
pub mod KindLaws
pub mod ReadingSteps
pub mod SourceTokens
pub mod TextSteps
pub mod TreeNames
