pub mod Loaded
pub mod Statement
pub mod Tests
