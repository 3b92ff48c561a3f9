pub mod Statement
pub mod Punctual
pub mod Example
