-- The laws of the note list: its reading, its notes one behind the other, and its putting together.
pub mod Reading
pub mod Notes
pub mod Together
