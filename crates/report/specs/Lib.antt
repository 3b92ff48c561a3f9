pub mod Pages
pub mod Report
pub mod Laws
