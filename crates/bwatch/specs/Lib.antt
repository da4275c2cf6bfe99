pub mod Sights
pub mod Watches
pub mod Steps
pub mod Trails
pub mod SmallPrograms
