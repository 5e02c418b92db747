pub mod Records
pub mod Offering
