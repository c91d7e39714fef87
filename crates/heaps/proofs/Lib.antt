pub mod Keeping
pub mod Laying
pub mod Histories
