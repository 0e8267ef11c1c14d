pub mod Engines
pub mod Batches
pub mod Replies
pub mod Accounts
pub mod Executions
pub mod Stages
