pub mod Tabled
pub mod Laws
