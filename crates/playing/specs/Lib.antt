pub mod List
pub mod Playing
