pub mod Ending
pub mod Laws
