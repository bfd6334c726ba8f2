pub mod ReleaseSteps
pub mod TakeSteps
pub mod Parts
