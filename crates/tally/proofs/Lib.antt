pub mod Counts
pub mod HeldBefore
pub mod OfKey
pub mod Options
