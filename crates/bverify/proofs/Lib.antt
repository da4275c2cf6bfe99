pub mod Standing
pub mod Searching
pub mod FlawLists
pub mod Tellings
