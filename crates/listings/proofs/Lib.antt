pub mod BadgeLaws
mod Elements
pub mod Gates
pub mod ReaderLaws
mod Rows
