pub mod Putting
pub mod Numerals
pub mod Within
pub mod Unique
