pub mod Feeding
pub mod Turns
pub mod Laws
