pub mod Flows
pub mod Pieces
pub mod Steps
pub mod Texts
