pub mod OrderedLaws
pub mod OrderedRows
