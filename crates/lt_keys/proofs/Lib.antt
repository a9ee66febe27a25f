pub mod Inside
pub mod Found
