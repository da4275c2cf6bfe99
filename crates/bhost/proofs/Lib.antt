pub mod Hosting
pub mod FindingFunctions
pub mod Refusing
pub mod Boxes
pub mod Loading
pub mod Beginning
