pub mod Number
pub mod NoteHead
pub mod Laws
