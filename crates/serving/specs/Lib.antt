pub mod Serves
pub mod ServesLaws
pub mod Shown
pub mod Sizes
pub mod Brief
pub mod Pending
