pub mod Invariant
pub mod OnWay
pub mod NewsRules
pub mod PathEffects
pub mod Laws
pub mod AccountRules
pub mod Homes
pub mod Untouched
