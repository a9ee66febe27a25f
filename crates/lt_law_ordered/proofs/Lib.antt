pub mod Loans
pub mod ChangeLoans
pub mod ActLoans
pub mod NodeLoans
pub mod MayHold
pub mod LoanMoves
pub mod OrderedRest
pub mod Releasing
