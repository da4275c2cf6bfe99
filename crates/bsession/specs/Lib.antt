pub mod Sessions
pub mod SessionRuns
pub mod Stops
pub mod Zeros
mod RunRows
mod StopRows
