pub mod Plan
pub mod Issue
pub mod Scan
