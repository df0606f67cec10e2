pub mod Units
pub mod Refusals
pub mod Buckets
pub mod Meters
pub mod Histories
