pub mod Heading
pub mod Laws
