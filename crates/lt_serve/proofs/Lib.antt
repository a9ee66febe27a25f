mod Answering
mod Checked
mod Completing
pub mod NeverCut
pub mod Ordered
mod Rooms
mod Stuck
