pub mod Settings
pub mod Bytes
