pub mod Upcoming
pub mod Compiled
pub mod FormatExcluded
