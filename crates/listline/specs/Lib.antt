pub mod ListLine
