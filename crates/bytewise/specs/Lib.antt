pub mod Bytewise
pub mod Laws
