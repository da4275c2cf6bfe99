pub mod Depths
pub mod Search
pub mod Flaws
pub mod Stands
pub mod Verifies
pub mod DepthRows
pub mod VerifyRows
