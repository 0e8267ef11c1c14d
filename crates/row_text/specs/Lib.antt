pub mod Texts
pub mod Calls
pub mod Merge
pub mod Feeding
pub mod Partitions
pub mod Kept
pub mod SideBySide
