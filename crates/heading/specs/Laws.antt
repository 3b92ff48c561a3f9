-- The laws of headings. Assumes nothing.
pub mod Heading
