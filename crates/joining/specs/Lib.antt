pub mod Rule
pub mod Join
pub mod Laws
pub mod Example
