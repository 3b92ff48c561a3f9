pub mod Scanned
pub mod NoteList
pub mod Notes
pub mod Laws
