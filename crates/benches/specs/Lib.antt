pub mod Replies
pub mod Benches
