pub mod Bus
pub mod Arrival
pub mod Changes
pub mod Kept
pub mod Law
