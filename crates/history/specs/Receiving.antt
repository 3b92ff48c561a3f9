-- The receiving side of a channel, and what events do to it.
pub mod Side
pub mod Roles
pub mod Events
pub mod Quiet
pub mod Stories
