pub mod Book
pub mod Runs
pub mod Verdicts
