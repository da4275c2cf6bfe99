pub mod FileLines
pub mod Files
pub mod FileRows
pub mod JoinedEnds
pub mod JoinedRows
pub mod OwnLines
