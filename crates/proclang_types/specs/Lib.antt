pub mod Syntax
pub mod Views
pub mod Typing
pub mod Procedures
