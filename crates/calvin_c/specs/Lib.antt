pub mod Values
pub mod Statuses
pub mod Handles
pub mod Sessions
pub mod Replies
pub mod Rows
pub mod Openings
