pub mod Channel
pub mod Chip
pub mod Laws
