pub mod Choice
pub mod Heaps
pub mod Racks
pub mod HeapsLemmas
pub mod RacksLemmas
