-- The channel's laws, a file for each idea.
pub mod Still
