pub mod Standings
pub mod Moved
