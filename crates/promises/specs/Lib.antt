pub mod Isolation
pub mod Refusals
pub mod Contracts
pub mod Laws
