pub mod Bits
pub mod Maps
pub mod Names
