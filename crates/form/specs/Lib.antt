pub mod Checks
pub mod Columns
pub mod Form
pub mod Pieces
pub mod Promise
pub mod Reading
pub mod Values
