pub mod Moving
pub mod Chains
pub mod ExpressionSteps
pub mod TokenSteps
pub mod HeadingLemmas
pub mod Steps
pub mod Takings
pub mod Lists
pub mod HeadingSteps
pub mod StatementSteps
pub mod DefinitionSteps
mod ParserExcluded
