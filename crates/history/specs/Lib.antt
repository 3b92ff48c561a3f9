pub mod Sound
pub mod Tools
pub mod Read
pub mod Quiet
pub mod Sending
pub mod Receiving
