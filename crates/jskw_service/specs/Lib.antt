pub mod Request
pub mod RequestView
pub mod Answer
pub mod Reply
pub mod Run
pub mod Parts
pub mod FirstErrors
