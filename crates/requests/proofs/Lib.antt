pub mod ProcLists
pub mod Requests
pub mod Moving
