pub mod Colours
pub mod Stops
