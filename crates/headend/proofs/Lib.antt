pub mod Scans
pub mod Checks
pub mod Tables
pub mod Unique
