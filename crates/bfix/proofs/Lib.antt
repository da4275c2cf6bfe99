mod FixExcluded
mod FixSteps
mod Kept
mod LeftSteps
mod PortSteps
pub mod DueSteps
