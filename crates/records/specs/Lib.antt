pub mod Rows
pub mod Numbers
pub mod Tests
pub mod RowLaws
pub mod ListLaws
pub mod LoopLaws
pub mod NumberLaws
pub mod RecordLaws
