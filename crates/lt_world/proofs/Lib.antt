pub mod Premises
pub mod Taking
pub mod Runs
pub mod TurnOrder
pub mod TurnMoves
pub mod Picks
pub mod AgainstLemmas
pub mod OneAsk
