pub mod Walking
pub mod Showing
pub mod Marking
pub mod Columns
