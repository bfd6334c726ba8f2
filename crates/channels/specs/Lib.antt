pub mod Held
pub mod HeldLaws
pub mod Seek
pub mod Move
pub mod Close
pub mod CloseLaws
