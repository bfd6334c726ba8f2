pub mod Names
pub mod NameLaws
pub mod RunLaws
pub mod Listed
pub mod List
