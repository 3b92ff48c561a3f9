-- Laws of a channel's sender: its tick in each mode, and what a history keeps. Assumes nothing.
pub mod Tick
pub mod Sound
