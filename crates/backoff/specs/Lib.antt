pub mod Backoffs
pub mod Steps
