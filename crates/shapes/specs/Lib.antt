pub mod Shapes
pub mod Sent
pub mod Laws
