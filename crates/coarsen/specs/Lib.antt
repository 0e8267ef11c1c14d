pub mod Subtrees
pub mod Coarsening
pub mod Plans
pub mod ThePlan
pub mod Clashes
pub mod Laws
