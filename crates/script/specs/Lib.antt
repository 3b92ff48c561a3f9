pub mod Step
pub mod Shown
