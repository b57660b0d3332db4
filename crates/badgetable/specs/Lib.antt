pub mod Plans
pub mod Rows
pub mod Shown
pub mod Tables
