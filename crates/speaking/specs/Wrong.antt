-- Wrong chips, and the sentence of a tale that each gets wrong. Assumes nothing.
pub mod Characters
pub mod Frames
