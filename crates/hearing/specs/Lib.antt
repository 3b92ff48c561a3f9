pub mod Happens
pub mod Characters
pub mod Entries
pub mod Reads
pub mod Frames
pub mod Wrong
