pub mod Comparisons
pub mod FirstBatches
pub mod Inputs
pub mod CommandEnds
pub mod Listings
