pub mod Stamp
pub mod Tables
pub mod Laws
