pub mod HeadForm
pub mod Same
pub mod Parts
pub mod Outcomes
pub mod Frames
pub mod Numbers
pub mod Returned
pub mod FrameText
