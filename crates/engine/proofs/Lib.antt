pub mod Ends
pub mod Told
pub mod Shown
pub mod Stops
pub mod Carried
