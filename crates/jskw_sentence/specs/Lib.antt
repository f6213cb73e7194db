pub mod Growth
pub mod Place
