pub mod Destination
