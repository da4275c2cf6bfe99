pub mod Stacking
pub mod CallsDrawn
pub mod WatchedPictures
pub mod DrawExcluded
