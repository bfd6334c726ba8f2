pub mod Walk
pub mod Found
pub mod Filed
pub mod LookLaws
