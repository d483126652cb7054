pub mod CheckField
