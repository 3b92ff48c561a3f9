-- The laws of the six sources.
pub mod Priority
