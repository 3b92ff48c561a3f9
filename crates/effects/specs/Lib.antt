pub mod Setting
pub mod Service
pub mod Resets
pub mod Modes
