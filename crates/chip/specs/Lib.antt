pub mod Interrupts
pub mod Chip
pub mod Event
pub mod Computing
