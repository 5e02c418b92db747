pub mod Requests
pub mod Records
