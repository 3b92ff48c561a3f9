pub mod Tale
pub mod Words
pub mod Kind
pub mod Parts
pub mod Wrong
pub mod Refused
