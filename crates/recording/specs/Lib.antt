pub mod Recording
pub mod RecordingLaws
pub mod AfterRecord
pub mod Fit
pub mod NameRecord
