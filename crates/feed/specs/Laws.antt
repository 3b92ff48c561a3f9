-- Laws of a fed sender: what is to come goes out, and a turn is so many of its ticks.
-- Assumes nothing.
pub mod Feeding
pub mod Turns
