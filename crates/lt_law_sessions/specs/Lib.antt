pub mod SessionLaws
pub mod HeldStill
