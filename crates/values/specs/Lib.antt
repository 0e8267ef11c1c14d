pub mod Names
pub mod Keys
pub mod Rows
pub mod Database
pub mod NameOrder
