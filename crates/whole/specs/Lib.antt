pub mod Come
pub mod Stage
pub mod Start
pub mod Heard
pub mod Frames
pub mod Laws
