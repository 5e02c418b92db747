pub mod Time
pub mod Begins
pub mod Span
