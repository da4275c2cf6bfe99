pub mod Dues
pub mod Forms
pub mod Sites
pub mod Wheres
mod WhereRows
mod FormRows
