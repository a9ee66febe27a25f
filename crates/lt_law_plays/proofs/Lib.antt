pub mod PlayLemmas
pub mod MergedLogs
pub mod RunParts
pub mod MergedRun
pub mod LowClocks
pub mod TokenHistory
pub mod Appending
