pub mod Fields
pub mod Frames
pub mod Marks
pub mod Records
