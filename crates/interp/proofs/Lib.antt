pub mod Everywhere
pub mod Left
pub mod Finding
