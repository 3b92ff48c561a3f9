pub mod Together
pub mod Results
pub mod Example
