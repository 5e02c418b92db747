pub mod Held
pub mod Plans
pub mod Planned
pub mod Issues
pub mod Selfcheck
pub mod Tables
pub mod Unique
