pub mod Over
pub mod ReadBack
