pub mod Receiver
pub mod Sound
pub mod Laws
