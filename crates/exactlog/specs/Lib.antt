pub mod ExactLog
pub mod Logs
