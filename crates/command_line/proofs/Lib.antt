pub mod Locals
pub mod Options
