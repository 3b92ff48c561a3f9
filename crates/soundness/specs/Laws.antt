-- That every event keeps it, of a channel and of the chip.
pub mod Channel
pub mod Chip
