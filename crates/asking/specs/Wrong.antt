-- Wrong chips, and the sentence of a tale that each gets wrong. Assumes nothing.
pub mod Pending
pub mod Serving
pub mod Vectors
pub mod Latching
