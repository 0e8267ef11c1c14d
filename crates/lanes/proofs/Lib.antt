pub mod Places
pub mod Counts
pub mod Stands
pub mod Put
pub mod Work
