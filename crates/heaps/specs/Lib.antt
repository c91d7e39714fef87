pub mod Rule
pub mod Points
pub mod Histories
pub mod Answers
