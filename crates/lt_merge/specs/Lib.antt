pub mod Merging
pub mod Marks
pub mod Heads
