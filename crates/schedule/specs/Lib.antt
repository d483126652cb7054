pub mod Pending
pub mod Covers
pub mod Slots
pub mod Listing
