pub mod Entries
pub mod Answered
pub mod Endings
pub mod Touched
pub mod Over
pub mod Numbers
