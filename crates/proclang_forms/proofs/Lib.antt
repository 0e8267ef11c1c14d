pub mod Arrays
pub mod Words
pub mod SpelledExpressions
pub mod SpelledStatements
pub mod SpelledProcs
