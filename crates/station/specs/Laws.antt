-- The station's laws: a walk over a list gives its report, and the line of what is sent is the
-- list's. Assumes nothing.
pub mod Walk
pub mod Line
