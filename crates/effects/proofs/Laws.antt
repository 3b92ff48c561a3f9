-- The laws of what events do, a file for each list of document 01.
pub mod Setting
pub mod Service
pub mod Resets
pub mod Modes
