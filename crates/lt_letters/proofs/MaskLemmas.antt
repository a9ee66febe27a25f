-- Sets of modes, mode by mode.
use Rattle.std.proofs.Common.{◌≡◌, Bool, true, false, if◌then◌else◌, refl}
use Rattle.lt_modes.specs.declared.mode.Mode.{Mode}
use Rattle.lt_modes.specs.declared.mode.Mode.TheVariants.{IntentionRead, Read, Upgrade, IntentionWrite, ReadIntentionWrite, Write}
use Rattle.lt_modes.specs.Modes.{Modes, one, no_modes, union}

-- the sets of one mode each that a mask has, together
abbrev pub alone : Bool → Mode → Modes
alone b mode = if b then one mode else no_modes

pub six : (a b c d e f : Bool)
    → union (alone f Write) (union (alone e ReadIntentionWrite) (union (alone d IntentionWrite) (union (alone c Upgrade) (union (alone b Read) (union (alone a IntentionRead) no_modes)))))
    ≡ record { intention_read = a; read = b; upgrade = c; intention_write = d; read_intention_write = e; write = f }
six true true true true true true = refl
six true true true true true false = refl
six true true true true false true = refl
six true true true true false false = refl
six true true true false true true = refl
six true true true false true false = refl
six true true true false false true = refl
six true true true false false false = refl
six true true false true true true = refl
six true true false true true false = refl
six true true false true false true = refl
six true true false true false false = refl
six true true false false true true = refl
six true true false false true false = refl
six true true false false false true = refl
six true true false false false false = refl
six true false true true true true = refl
six true false true true true false = refl
six true false true true false true = refl
six true false true true false false = refl
six true false true false true true = refl
six true false true false true false = refl
six true false true false false true = refl
six true false true false false false = refl
six true false false true true true = refl
six true false false true true false = refl
six true false false true false true = refl
six true false false true false false = refl
six true false false false true true = refl
six true false false false true false = refl
six true false false false false true = refl
six true false false false false false = refl
six false true true true true true = refl
six false true true true true false = refl
six false true true true false true = refl
six false true true true false false = refl
six false true true false true true = refl
six false true true false true false = refl
six false true true false false true = refl
six false true true false false false = refl
six false true false true true true = refl
six false true false true true false = refl
six false true false true false true = refl
six false true false true false false = refl
six false true false false true true = refl
six false true false false true false = refl
six false true false false false true = refl
six false true false false false false = refl
six false false true true true true = refl
six false false true true true false = refl
six false false true true false true = refl
six false false true true false false = refl
six false false true false true true = refl
six false false true false true false = refl
six false false true false false true = refl
six false false true false false false = refl
six false false false true true true = refl
six false false false true true false = refl
six false false false true false true = refl
six false false false true false false = refl
six false false false false true true = refl
six false false false false true false = refl
six false false false false false true = refl
six false false false false false false = refl
