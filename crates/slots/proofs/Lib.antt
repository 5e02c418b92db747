pub mod Rolling
mod Converting
pub mod Spans
pub mod Spanning
pub mod Unique
mod Worked
