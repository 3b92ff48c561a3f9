pub mod Refusal
pub mod Mode
pub mod Bit
pub mod Tools
pub mod Same
