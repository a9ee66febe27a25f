mod Cells
pub mod Counting
mod Clearing
pub mod Telling
pub mod Lines
