pub mod InvariantLaws
