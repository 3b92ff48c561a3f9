pub mod Happens
pub mod Pending
pub mod Serving
pub mod Vectors
pub mod Latching
pub mod Wrong
