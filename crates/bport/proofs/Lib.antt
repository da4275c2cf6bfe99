mod LineSteps
pub mod StaySteps
