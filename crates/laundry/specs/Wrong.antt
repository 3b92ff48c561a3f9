-- Wrong chips, and the sentence of a tale that each gets wrong. Assumes nothing.
pub mod Sending
pub mod Receiving
pub mod Bisync
