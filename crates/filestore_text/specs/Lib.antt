pub mod Parts
pub mod PartLaws
pub mod Endings
