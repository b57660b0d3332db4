pub mod Kinds
pub mod OfKey
pub mod Readers
pub mod Refusals
pub mod Shares
pub mod Restored
