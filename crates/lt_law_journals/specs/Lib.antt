pub mod Checking
pub mod Rows
pub mod ClosingLaws
