pub mod Happens
pub mod Story
pub mod Sent
pub mod Received
pub mod Sending
pub mod Receiving
