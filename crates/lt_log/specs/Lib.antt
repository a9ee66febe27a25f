pub mod LogData
