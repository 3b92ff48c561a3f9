-- The laws of the advance. Assumes nothing.
pub mod Advance
