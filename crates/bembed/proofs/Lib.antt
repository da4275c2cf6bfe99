mod Filling
mod Following
mod Over
pub mod RoomSteps
pub mod RoomsExcluded
