pub mod JoinedRun
pub mod States
