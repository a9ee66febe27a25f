pub mod TextLemmas
pub mod NumberLemmas
