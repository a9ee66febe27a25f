pub mod Choice
pub mod Fields
pub mod Ready
pub mod Waits
