pub mod BoundLemmas
pub mod MarkLemmas
pub mod NoticeLemmas
pub mod FitsLemmas
pub mod BoundServices
pub mod CommandLemmas
pub mod StepLemmas
pub mod StateSeen
