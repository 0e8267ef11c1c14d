pub mod Rights
pub mod Modes
pub mod Coarsening
pub mod Comparisons
pub mod Arithmetic
