pub mod Characters
pub mod Columns
pub mod Programs
pub mod Quoting
pub mod QuotingRows
pub mod Functions
pub mod ProgramsExcluded
pub mod FaultPlaces
pub mod PlaceRows
pub mod TextRows
pub mod FrameNames
pub mod FrameRows
pub mod KeptNames
pub mod SourceLines
pub mod ProgramLines
pub mod LineRows
pub mod PlaceLines
pub mod NamedFrames
pub mod Origins
pub mod CodesExcluded
mod OriginRows
mod NamedRows
