pub mod Listing
pub mod Programs
pub mod Records
pub mod Sound
pub mod Table
pub mod Vetting
