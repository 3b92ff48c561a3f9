pub mod Happens
pub mod Characters
pub mod Frames
pub mod Wrong
