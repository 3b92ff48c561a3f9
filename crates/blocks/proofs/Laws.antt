-- The laws of whole blocks, a file for each part.
pub mod Check
pub mod Checked
pub mod Register
pub mod Hunt
pub mod Received
pub mod Come
pub mod Sent
pub mod Off
pub mod Brought
pub mod Together
