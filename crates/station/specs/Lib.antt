pub mod Answers
pub mod Station
pub mod Walk
pub mod Fed
pub mod Laws
