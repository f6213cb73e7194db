pub mod RowsApplications
pub mod RowsErrors
pub mod RowsEvaluation
pub mod RowsRefusals
pub mod RowsSiblings
pub mod Worked
