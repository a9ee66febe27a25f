pub mod OwnLaws
pub mod WaitingLaws
pub mod OldLaws
