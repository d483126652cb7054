pub mod Turns
pub mod InOrder
pub mod Pages
pub mod Least
pub mod Heads
pub mod Entries
