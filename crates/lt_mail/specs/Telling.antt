-- Which rings a flush gave letters.
use Rattle.std.specs.Prelude.{◌≡◌, ◌==◌, ◌≤◌, ◌<◌, ◌⊎◌, Bool, ℕ, List, [], length, MatchBool}
use Rattle.std.specs.Int.{bit_at}
use mathlib.Core.List.{IsPrefix}
use Rattle.lt_mail.specs.declared.mail.Mail.{Mail}
use Rattle.lt_mail.specs.Words.{out_at, given_to, waiting_to, places_to, IsFullTo}
use Rattle.lt_mail.specs.Passing.{KeepsSent}

-- the list is longer where this is true, and else the same
abbrev pub GrewIf : {X : Type 0} → Bool → List X → List X → Type 0
GrewIf told before after = MatchBool told (length before < length after) (after ≡ before)

-- whether the number has its bit
abbrev pub has_number : ℕ → ℕ → Bool
has_number mask number = bit_at mask number == 1

-- the nodes that have their bits are those whose rings were given letters
abbrev pub TellsGiven : ℕ → Mail → Mail → Type 0
TellsGiven mask a b = (node : ℕ) → GrewIf (has_number mask node) (given_to a node) (given_to b node)

-- the outboxes to the first n nodes were flushed, and no others
pub record FlushesFirst (n mask : ℕ) (a b : Mail) : Type 0 where
  pub kept : KeepsSent a b
  pub given : (node : ℕ) → IsPrefix (given_to a node) (given_to b node)
  pub first : (node : ℕ) → node < n → length (given_to b node) < places_to b node → waiting_to b node ≡ []
  pub stops : (node : ℕ) → node < n → (waiting_to b node ≡ []) ⊎ IsFullTo b node
  pub later : (node : ℕ) → n ≤ node → out_at b node ≡ out_at a node
  pub told : TellsGiven mask a b
