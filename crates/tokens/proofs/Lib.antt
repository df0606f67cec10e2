pub mod Bounds
pub mod Forms
pub mod Products
pub mod Comparing
