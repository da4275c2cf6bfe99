pub mod Endings
pub mod RunExcluded
pub mod OneRun
pub mod GoSteps
pub mod HeadlineSteps
pub mod MeantSteps
pub mod RunSteps
mod AlikeLaws
mod TextExcluded
mod TextLaws
mod MigrateSteps
mod Unmigrated
