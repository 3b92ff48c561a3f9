pub mod Imprint
pub mod Laws
