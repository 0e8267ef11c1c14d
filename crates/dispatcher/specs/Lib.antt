pub mod Ranges
pub mod Runs
pub mod Tallies
pub mod Listeners
pub mod Dispatched
pub mod Workers
