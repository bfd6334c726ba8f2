pub mod Files
pub mod FileLaws
pub mod PutLaws
pub mod WriteLaws
pub mod Growing
