pub mod ModeAlgebra
mod MaskLemmas
pub mod ServingLemmas
mod FiveModesKept
mod PlaceLemmas
pub mod StampOrder
