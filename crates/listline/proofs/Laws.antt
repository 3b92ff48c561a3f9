-- A sender that has sent a frame stands behind a flag with its buffer empty, and every note of a
-- list has a frame: so the line of a list is these frames, joined as the choice says. Assumes
-- nothing.
pub mod Empty
pub mod Fits
pub mod Line
