pub mod Results
pub mod Stores
pub mod Likeness
pub mod Leaving
pub mod Consequences
