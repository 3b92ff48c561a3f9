-- The sender's side of a channel, and what events do to it.
pub mod Side
pub mod Quiet
pub mod Events
pub mod Stories
pub mod Anew
