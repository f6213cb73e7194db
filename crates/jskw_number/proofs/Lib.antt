pub mod Divisors
pub mod EmptySets
pub mod Limits
pub mod Outlines
pub mod QuickSets
