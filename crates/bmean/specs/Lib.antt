pub mod Sentences
pub mod Laws
pub mod RunRows
pub mod LawRows
pub mod Endless
