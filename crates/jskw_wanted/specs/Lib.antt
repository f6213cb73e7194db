pub mod Asked
pub mod Enough
pub mod Seen
