pub mod Unit
pub mod Happens
pub mod Sending
pub mod Bisync
pub mod Receiving
pub mod Wrong
