pub mod Limit
pub mod Meaning
pub mod Names
pub mod Outline
pub mod QuickSet
pub mod Size
