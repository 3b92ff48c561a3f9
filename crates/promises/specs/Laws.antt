-- The laws of the chip's events, a file for each idea.
pub mod Isolation
pub mod Refusals
pub mod Priority
