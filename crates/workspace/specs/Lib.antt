pub mod Overlay
pub mod Scan
pub mod Walks
pub mod Coverage
pub mod States
pub mod Answers
