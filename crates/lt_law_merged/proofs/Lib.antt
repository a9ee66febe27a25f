pub mod PartLogs
