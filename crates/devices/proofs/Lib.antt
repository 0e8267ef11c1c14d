pub mod Passing
pub mod Lines
pub mod Positions
pub mod Pieces
pub mod Feeds
