pub mod Judged
pub mod Located
pub mod LocateLaws
pub mod At
pub mod InStore
