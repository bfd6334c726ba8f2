pub mod Places
pub mod Runs
pub mod RunLaws
pub mod InBlock
pub mod ReadLaws
