pub mod CleanLaws
pub mod CompilerSteps
pub mod CompileSteps
pub mod CompileHeadlines
pub mod CompileExcluded
mod ListSteps
pub mod LocalLaws
pub mod LocalRows
pub mod MadeSteps
pub mod ReadingLaws
pub mod Remaining
pub mod SinceSteps
pub mod TakenSteps
pub mod TakenLaws
pub mod NamesSteps
mod WatchSteps
mod WholeSteps
mod CompilerExcluded
