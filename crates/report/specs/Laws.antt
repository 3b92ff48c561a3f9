-- Laws of a list's report: a walk over the list gives it, its total is bounded, and rows that have
-- no room are not told. Assumes nothing.
pub mod Notes
pub mod Ticks
pub mod Rows
