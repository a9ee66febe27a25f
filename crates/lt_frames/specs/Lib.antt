pub mod Sealing
pub mod Frames
pub mod Reading
pub mod Causes
pub mod Seen
pub mod Laws
