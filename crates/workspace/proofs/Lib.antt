pub mod Writes
pub mod Ahead
pub mod Covered
pub mod Untouched
pub mod OwnRows
pub mod Merged
pub mod Counts
pub mod Scanned
