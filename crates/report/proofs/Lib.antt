pub mod Ways
pub mod Decimals
pub mod Filling
pub mod Putting
pub mod Next
pub mod Sizes
pub mod Facts
pub mod Running
pub mod Unique
mod Worked
