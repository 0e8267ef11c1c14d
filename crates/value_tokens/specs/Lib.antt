pub mod Documents
pub mod ValueLists
