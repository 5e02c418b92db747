pub mod Ways
pub mod Round
pub mod Whole
pub mod Unique
