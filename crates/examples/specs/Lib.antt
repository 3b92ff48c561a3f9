pub mod Run
pub mod Examples
pub mod Laws
