pub mod Answer
pub mod Channel
pub mod Control
pub mod Events
pub mod Laws
