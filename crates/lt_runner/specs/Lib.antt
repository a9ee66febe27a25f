pub mod Kept
pub mod Choices
pub mod Ready
pub mod Polled
pub mod Posting
pub mod AtOnce
