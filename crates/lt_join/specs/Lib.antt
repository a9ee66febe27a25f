pub mod Parts
pub mod JoinLaws
pub mod JoinRows
