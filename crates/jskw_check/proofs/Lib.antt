pub mod Numbers
pub mod Words
pub mod Behind
pub mod Steps
pub mod RowsArguments
pub mod Runs
