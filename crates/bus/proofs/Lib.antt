pub mod Ranks
pub mod First
pub mod Homes
pub mod Keeping
pub mod Offers
pub mod Same
pub mod Fresh
pub mod Space
