pub mod Alike
pub mod Same
pub mod Congruence
pub mod Naming
pub mod Calls
pub mod Depths
