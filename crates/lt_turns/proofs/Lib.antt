mod PlaceLemmas
mod TreeLemmas
