pub mod FileLaws
pub mod Determined
pub mod AnswerLaws
pub mod Refusals
pub mod PromiseLaws
pub mod Outcomes
pub mod Full
