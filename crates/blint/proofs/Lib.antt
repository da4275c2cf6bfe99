pub mod FirstNotices
pub mod LintSteps
pub mod SourceSteps
pub mod ToldSteps
