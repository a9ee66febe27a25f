pub mod Generated
pub mod SizeLemmas
pub mod GroupLemmas
pub mod MadeScript
