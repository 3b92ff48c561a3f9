pub mod Statement
pub mod Cut
pub mod Heard
pub mod Told
pub mod Tests
