-- Laws of asynchronous mode: the bits of a character, its line, and what a history keeps. Assumes
-- nothing.
pub mod Character
pub mod Line
pub mod Sound
