pub mod Reading
pub mod Saying
pub mod Lining
