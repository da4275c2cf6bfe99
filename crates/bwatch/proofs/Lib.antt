pub mod Origins
pub mod Seen
mod Loaded
pub mod Kept
mod Telling
