pub mod Stored
pub mod Starts
pub mod GoingOn
pub mod CutLogs
