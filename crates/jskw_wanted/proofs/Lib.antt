pub mod Growth
pub mod LevelsLeft
pub mod Pruned
pub mod Read
