pub mod Log
pub mod Session
pub mod Meaning
pub mod Promise
