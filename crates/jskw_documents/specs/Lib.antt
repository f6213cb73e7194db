pub mod Shown
pub mod Reports
pub mod Documents
pub mod Devices
pub mod Streams
pub mod Schemas
pub mod Files
