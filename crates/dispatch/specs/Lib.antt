pub mod Side
pub mod Events
pub mod Statement
pub mod Block
pub mod Shown
pub mod Chain
pub mod Quiet
pub mod Tests
