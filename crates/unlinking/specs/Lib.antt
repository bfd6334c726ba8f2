pub mod Unlink
pub mod UnlinkLaws
