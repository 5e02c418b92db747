pub mod Tabled
pub mod Forties
pub mod Unique
