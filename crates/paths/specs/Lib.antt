pub mod Taking
pub mod TakingLaws
