pub mod Ways
pub mod Accepted
pub mod Parting
pub mod Granting
pub mod Lists
pub mod Unique
