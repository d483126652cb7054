pub mod Rejection
pub mod Table
pub mod Request
