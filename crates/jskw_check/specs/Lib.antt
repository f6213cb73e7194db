pub mod Arguments
pub mod Commands
pub mod CommandView
pub mod Program
