pub mod Lines
pub mod Modules
