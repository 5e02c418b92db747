pub mod History
pub mod Claims
pub mod Numbers
