pub mod OfStore
pub mod Gone
