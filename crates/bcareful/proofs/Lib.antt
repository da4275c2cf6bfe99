pub mod Going
pub mod Loaded
pub mod Looking
pub mod Steps
pub mod WarnedSteps
pub mod Silent
pub mod Whole
pub mod CareExcluded
