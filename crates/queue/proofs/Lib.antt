pub mod Rounds
pub mod Frames
pub mod Step
pub mod Heads
pub mod Same
