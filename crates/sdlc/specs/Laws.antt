-- Laws of SDLC's ticks; those of whole frames stand in crate whole. Assumes nothing.
pub mod Tick
pub mod Plain
pub mod Within
pub mod Sound
