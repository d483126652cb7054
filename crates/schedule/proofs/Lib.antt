pub mod Free
pub mod Order
