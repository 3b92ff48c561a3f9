pub mod Demand
pub mod Flip
pub mod Room
pub mod Example
