pub mod Happens
pub mod Hosts
pub mod Wrong
