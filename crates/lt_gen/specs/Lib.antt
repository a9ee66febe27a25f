pub mod Generator
pub mod Sizes
