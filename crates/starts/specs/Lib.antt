pub mod Statement
pub mod Flag
