pub mod Plan
pub mod Insert
pub mod EndAll
