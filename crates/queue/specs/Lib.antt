pub mod Queue
pub mod Holding
pub mod Laws
