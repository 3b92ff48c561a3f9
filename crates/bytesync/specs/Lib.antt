pub mod Syncs
pub mod Sending
pub mod Hearing
pub mod Within
pub mod Sound
pub mod Laws
