pub mod Lists
pub mod Waiting
pub mod Rule
pub mod Laws
pub mod Sound
pub mod Steps
