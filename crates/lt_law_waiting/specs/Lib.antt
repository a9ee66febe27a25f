pub mod ReportLaws
pub mod WaitingLaws
