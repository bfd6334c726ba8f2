pub mod Free
pub mod Room
pub mod NewName
pub mod OldName
