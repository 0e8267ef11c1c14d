pub mod Words
pub mod Notes
pub mod Views
pub mod Rule
pub mod Stands
pub mod Steps
pub mod Seats
pub mod Laws
