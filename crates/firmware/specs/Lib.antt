pub mod Codes
pub mod Layout
pub mod Calls
pub mod Scan
