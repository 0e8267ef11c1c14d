pub mod Exchange
pub mod Named
pub mod Places
pub mod Rebuilding
pub mod Rows
pub mod Scans
pub mod Shelving
