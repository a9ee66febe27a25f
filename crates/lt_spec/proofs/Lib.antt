pub mod LeastFull
pub mod FirstBad
