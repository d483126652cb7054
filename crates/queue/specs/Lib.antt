pub mod Ring
pub mod Rules
pub mod Queue
pub mod Keeps
