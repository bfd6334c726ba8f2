pub mod Open
pub mod Create
pub mod CreateLaws
pub mod CreateCases
