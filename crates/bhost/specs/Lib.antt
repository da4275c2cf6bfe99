pub mod Blocks
pub mod Places
pub mod Hosts
pub mod Symbols
pub mod Runs
pub mod Deeds
pub mod FoundFunctions
pub mod Statuses
mod HostRows
mod NameRows
mod SymbolRows
