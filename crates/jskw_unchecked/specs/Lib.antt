pub mod Names
pub mod Reason
pub mod Unchecked
pub mod Covered
