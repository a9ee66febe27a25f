pub mod AnyCall
pub mod AnyNest
pub mod AnyRun
