pub mod Reads
pub mod Lists
