mod PlaceParts
mod RowParts
mod Traced
mod Located
mod Unasked
mod TraceExcluded
mod PlacesTold
