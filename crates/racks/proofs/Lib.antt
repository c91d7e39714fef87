pub mod Histories
pub mod Turns
