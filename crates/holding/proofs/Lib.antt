pub mod Holding
pub mod Orders
