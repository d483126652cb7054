pub mod Switches
pub mod Status
