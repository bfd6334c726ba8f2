pub mod Lookups
pub mod Depth
pub mod Given
pub mod LetGo
pub mod Orphans
pub mod Linked
