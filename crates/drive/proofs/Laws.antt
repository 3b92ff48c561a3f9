-- What a station's calls do to channel A, that its ticks are those of the SDLC sender alone, and
-- that the note's frame goes out. Assumes nothing.
pub mod Calls
pub mod Look
pub mod Framer
pub mod Frame
