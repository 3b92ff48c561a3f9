-- Laws of whole frames: what is to come, what was heard, the latch. Assumes nothing.
pub mod Come
pub mod Start
pub mod Latch
pub mod Heard
pub mod Bytes
pub mod Flip
pub mod Frames
pub mod Deaf
pub mod Unclosed
