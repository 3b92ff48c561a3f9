-- Laws of the byte-synchronous modes: what a history keeps, that what they hand over is
-- plain, and that most ticks have a form of their own. Assumes nothing.
pub mod Sound
pub mod Plain
pub mod Within
