pub mod Happens
pub mod Resets
pub mod Modes
pub mod Wrong
