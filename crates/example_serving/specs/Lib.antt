pub mod Calls
pub mod Logs
pub mod Clients
pub mod Serving
pub mod Services
pub mod Steps
