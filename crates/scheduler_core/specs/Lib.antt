pub mod Transactions
pub mod Serial
pub mod Phases
pub mod Events
pub mod Choices
pub mod Sound
pub mod Machine
pub mod Laws
