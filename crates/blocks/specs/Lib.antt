pub mod Check
pub mod Heard
pub mod Characters
pub mod Register
pub mod Come
pub mod Example
