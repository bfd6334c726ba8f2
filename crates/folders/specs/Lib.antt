pub mod Acts
pub mod Remove
pub mod RemoveLaws
pub mod Make
pub mod MakeLaws
pub mod MakeCases
