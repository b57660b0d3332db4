pub mod Covered
mod Entered
mod Followed
mod Noted
pub mod Pairs
pub mod Rooms
mod Started
mod Swept
