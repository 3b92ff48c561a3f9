pub mod Abort
pub mod Next
pub mod Example
