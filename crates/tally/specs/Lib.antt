pub mod Arrivals
pub mod Owed
pub mod Plans
pub mod Within
