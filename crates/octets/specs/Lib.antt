pub mod Padded
pub mod Octets
