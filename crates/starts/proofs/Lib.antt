pub mod Started
pub mod Example
