pub mod Statement
pub mod Frame
pub mod Chain
pub mod Tests
