pub mod PutFile
pub mod PutLayout
pub mod PutChannel
pub mod Putting
