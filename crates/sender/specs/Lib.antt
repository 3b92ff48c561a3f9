pub mod Sender
pub mod Good
pub mod Sound
pub mod Laws
