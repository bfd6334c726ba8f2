pub mod Tells
pub mod Rows
