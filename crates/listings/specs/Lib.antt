pub mod Listings
pub mod Right
