pub mod Octets
pub mod Packet
