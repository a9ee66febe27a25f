pub mod BroughtIn
pub mod FarEnds
pub mod Frames
pub mod GivenOut
pub mod Looking
pub mod NodeFacts
pub mod Standing
