pub mod Opportunities
pub mod Steps
pub mod Hearing
pub mod Scan
