pub mod Rule
pub mod Top
pub mod Fits
pub mod Examples
pub mod Keeping
pub mod Walk
pub mod Seen
pub mod Choosing
