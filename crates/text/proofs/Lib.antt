pub mod CutLaws
pub mod ReadLaws
pub mod WordLaws
pub mod DigitLaws
pub mod PrintLaws
