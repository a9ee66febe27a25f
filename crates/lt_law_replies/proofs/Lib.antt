mod ReplyRules
mod ReplyActs
mod ReplyRows
mod ReplyWithdraws
mod ReplyMoves
mod ReplyCommands
mod ReplySteps
pub mod ReplyRuns
