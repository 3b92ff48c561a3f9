-- The laws of the line's definitions, a file for each, in the order of the definitions.
pub mod Bits
pub mod Xor
pub mod Check
pub mod Insertion
pub mod Frame
pub mod Line
