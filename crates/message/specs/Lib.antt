pub mod Element
pub mod Fields
pub mod Lists
pub mod Map
pub mod Reading
pub mod After
pub mod Grants
pub mod Scan
