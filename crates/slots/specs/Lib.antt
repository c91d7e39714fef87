pub mod Rule
pub mod Turns
pub mod Keeping
pub mod Search
