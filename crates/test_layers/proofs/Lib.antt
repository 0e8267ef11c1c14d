pub mod Less
pub mod Firsts
