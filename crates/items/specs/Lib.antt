pub mod Kind
pub mod Item
pub mod Desk
pub mod Sheet
pub mod Cells
pub mod Lines
pub mod Laws
