pub mod StampLemmas
mod RecountLemmas
mod CountLemmas
mod KnownLemmas
