pub mod Moves
pub mod Keeps
pub mod Runs
pub mod Ends
pub mod Laws
