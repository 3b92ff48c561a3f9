-- Laws of a channel's receiver: its tick in SDLC, and what a history keeps. Assumes nothing.
pub mod Tick
pub mod Sound
