pub mod Bits
pub mod Check
pub mod Insertion
pub mod Frame
pub mod Line
pub mod Laws
