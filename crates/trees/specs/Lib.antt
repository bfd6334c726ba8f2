pub mod AfterFile
pub mod Records
pub mod Rewrite
pub mod Entries
pub mod Standing
pub mod Lookups
pub mod Naming
pub mod Orphans
