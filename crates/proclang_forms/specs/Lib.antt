pub mod Operators
pub mod ExprForms
pub mod StmtForms
pub mod ProcForms
pub mod Spells
