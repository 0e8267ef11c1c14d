pub mod Again
pub mod Attempts
pub mod Batches
pub mod Endings
pub mod Entries
pub mod NextAttempts
