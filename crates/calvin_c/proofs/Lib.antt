pub mod Copying
pub mod Values
