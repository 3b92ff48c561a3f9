pub mod Pen
pub mod Laws
