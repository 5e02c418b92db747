pub mod Stores
pub mod Trips
pub mod Unique
mod Worked
