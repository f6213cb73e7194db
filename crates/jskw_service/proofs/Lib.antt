pub mod Reading
pub mod Requests
pub mod Parts
pub mod FirstErrors
