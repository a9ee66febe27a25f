-- Lines that don't answer a command.
use Rattle.std.proofs.Common.{inl, inr, Bool}
use Rattle.lt_modes.specs.declared.mode.Mode.TheVariants.{Read, Write}
use Rattle.lt_modes.specs.declared.command.Command.TheVariants.{Change, Lock}
use Rattle.lt_modes.specs.declared.event.Event.TheVariants.{Wait, NotHeld, Withdraw as WithdrawLine, Withdrawn, Void}
use Rattle.lt_spec.specs.Script.{AnswersCommand}

pub other_mode : AnswersCommand 3 (Change 1 Read Write) (NotHeld 3 1 Write) → ⊥
other_mode (inl e) = cc
other_mode (inr (inl e)) = cc
other_mode (inr (inr (inl e))) = cc
other_mode (inr (inr (inr e))) = cc

pub not_wait : AnswersCommand 3 (Change 1 Read Write) (Wait 3 1 Write) → ⊥
not_wait (inl e) = cc
not_wait (inr (inl e)) = cc
not_wait (inr (inr (inl e))) = cc
not_wait (inr (inr (inr e))) = cc

pub not_given_up : AnswersCommand 3 (Change 1 Read Write) (Withdrawn 3 1 Read) → ⊥
not_given_up (inl e) = cc
not_given_up (inr (inl e)) = cc
not_given_up (inr (inr (inl e))) = cc
not_given_up (inr (inr (inr e))) = cc

pub not_void : AnswersCommand 3 (Lock 1 Write) (Void 3 1 Write) → ⊥
not_void (inl e) = cc
not_void (inr (inl e)) = cc
not_void (inr (inr e)) = cc

pub not_withdraw : (got : Bool) → AnswersCommand 3 (Lock 1 Write) (WithdrawLine 3 3 1 got) → ⊥
not_withdraw got (inl e) = cc
not_withdraw got (inr (inl e)) = cc
not_withdraw got (inr (inr e)) = cc
