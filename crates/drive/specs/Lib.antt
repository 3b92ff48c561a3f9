pub mod Drive
pub mod Framer
