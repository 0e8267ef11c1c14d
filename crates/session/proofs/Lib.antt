pub mod Growing
pub mod Rooms
pub mod Turns
pub mod Told
pub mod Runs
pub mod Closers
pub mod Numbers
pub mod Scans
