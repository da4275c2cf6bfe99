pub mod Answered
pub mod CoreDone
mod ReadLibs
pub mod Showing
