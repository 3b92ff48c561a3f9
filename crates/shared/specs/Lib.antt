pub mod Shared
pub mod Preset
pub mod Laws
