mod Pieces
mod Moving
mod LeftLines
mod DueLines
mod LastLines
mod Passed
mod Feeding
mod FirstLines
mod FirstTaken
mod Wanting
pub mod Inputs
