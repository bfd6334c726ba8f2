pub mod TellsLaws
