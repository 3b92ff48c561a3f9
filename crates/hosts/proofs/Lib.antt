pub mod Steps
pub mod Line
pub mod Late
pub mod Example
