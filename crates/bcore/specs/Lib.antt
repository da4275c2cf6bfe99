pub mod Blocks
pub mod CoreJobs
pub mod Processes
pub mod Reading
pub mod Serves
pub mod Shelves
pub mod Tools
