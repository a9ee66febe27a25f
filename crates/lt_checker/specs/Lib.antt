pub mod Checker
pub mod Input
pub mod Heads
pub mod Due
pub mod First
