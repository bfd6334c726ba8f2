pub mod EntryLaws
pub mod CountLaws
pub mod Places
pub mod Runs
pub mod Find
pub mod FindLaws
