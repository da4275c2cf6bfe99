pub mod Rooms
pub mod Calls
pub mod Wholes
pub mod Asks
pub mod WithFiles
pub mod Looks
pub mod Sessions
mod CallRows
pub mod RoomsExcluded
mod SessionRows
mod ListRows
