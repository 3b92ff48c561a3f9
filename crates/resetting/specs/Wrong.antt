-- Wrong chips, and the sentence of a tale that each gets wrong. Assumes nothing.
pub mod Resets
pub mod Modes
