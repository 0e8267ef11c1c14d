pub mod Rights
pub mod Modes
pub mod Laws
