pub mod Refusals
pub mod Sids
pub mod Backoffs
pub mod Rules
