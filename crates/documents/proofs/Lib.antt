pub mod Json
pub mod Steps
pub mod FirstFault
pub mod Said
