pub mod Codes
pub mod Fits
pub mod Vets
pub mod Words
