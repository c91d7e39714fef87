pub mod Cutting
pub mod Firsts
pub mod Fives
pub mod Judging
pub mod Places
pub mod Turns
