pub mod InPlace
pub mod Table
pub mod Forty
