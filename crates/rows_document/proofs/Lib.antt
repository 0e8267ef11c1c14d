pub mod Characters
pub mod Trees
pub mod Tokens
pub mod Ascii
pub mod Ordered
pub mod Listed
pub mod ReadBack
