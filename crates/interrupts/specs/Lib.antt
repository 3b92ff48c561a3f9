pub mod Interrupts
pub mod Priority
pub mod Laws
