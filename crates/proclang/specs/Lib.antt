pub mod StatementTypes
pub mod Statements
pub mod Procs
pub mod BrokenStatements
pub mod BrokenProcs
pub mod SaysStatements
pub mod Says
