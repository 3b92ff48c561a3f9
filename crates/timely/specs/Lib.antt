pub mod Start
pub mod InTime
pub mod Free
pub mod Tests
