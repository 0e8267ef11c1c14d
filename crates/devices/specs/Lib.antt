pub mod Devices
pub mod Adapters
pub mod Lines
pub mod LineReader
pub mod Pieces
