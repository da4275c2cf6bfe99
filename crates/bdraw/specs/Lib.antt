pub mod Shapes
pub mod Pictures
pub mod Stacks
pub mod Draws
pub mod PictureRows
pub mod DrawExcluded
