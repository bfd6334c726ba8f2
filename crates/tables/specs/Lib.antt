pub mod Read
pub mod Searches
pub mod Found
pub mod SearchLaws
pub mod ReadBack
pub mod StoreLaws
