pub mod Ways
pub mod Scanning
pub mod Heard
pub mod Inside
pub mod Unique
pub mod Worked
