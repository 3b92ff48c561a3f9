pub mod Mirror
pub mod Laws
