pub mod Keyword
pub mod Run
