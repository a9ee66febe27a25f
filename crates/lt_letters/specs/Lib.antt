pub mod Spelling
pub mod Reading
pub mod Causes
pub mod Seen
pub mod Laws
pub mod Puts
