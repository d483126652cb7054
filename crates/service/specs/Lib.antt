pub mod State
pub mod Reports
pub mod Requests
pub mod Clock
