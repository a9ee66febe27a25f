pub mod ReadLines
pub mod SetsAsked
pub mod Pieces
pub mod Tags
pub mod Sizes
pub mod Judged
