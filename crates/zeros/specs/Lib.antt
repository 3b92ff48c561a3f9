pub mod Counted
pub mod Zeros
pub mod Laws
