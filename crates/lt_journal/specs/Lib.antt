pub mod RunLines
pub mod LineFits
pub mod Grammar
pub mod Split
pub mod Wording
pub mod Page
