pub mod Words
pub mod Names
pub mod Commands
pub mod Entries
pub mod Lines
