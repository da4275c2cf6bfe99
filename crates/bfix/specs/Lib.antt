pub mod Due
pub mod FixExcluded
mod FixRows
pub mod Fixes
pub mod Keeping
pub mod LeftText
pub mod OwnText
pub mod Ports
