pub mod Sessions
pub mod OneRun
pub mod TwoSlices
pub mod Walking
pub mod StopsExcluded
pub mod HeldPages
pub mod SlicesExcluded
pub mod Parts
