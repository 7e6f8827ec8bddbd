pub mod ProgramReader
pub mod Exact
pub mod Answer
