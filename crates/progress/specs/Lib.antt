pub mod Tallies
pub mod Rule
pub mod Passes
pub mod Accounts
