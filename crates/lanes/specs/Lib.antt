pub mod Seats
pub mod Kept
pub mod Stands
pub mod Calls
pub mod Laws
