pub mod Underrun
pub mod Unclosed
pub mod Example
