pub mod Bodies
pub mod Decimal
pub mod Text
pub mod Report
pub mod Scan
