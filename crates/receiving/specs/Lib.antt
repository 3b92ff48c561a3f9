pub mod Statement
pub mod Conserved
pub mod Untold
