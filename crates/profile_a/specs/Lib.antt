pub mod Day
pub mod Judging
pub mod Lines
pub mod Requests
pub mod Stops
