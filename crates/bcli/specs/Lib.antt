pub mod ShellExcluded
pub mod Passes
pub mod Reading
pub mod Serves
pub mod ServeRows
pub mod Tries
pub mod Explains
