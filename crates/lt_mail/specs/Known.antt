-- In which rings letters are known.
use Rattle.std.specs.Prelude.{◌≡◌, ◌≢◌, Bool, ℕ, true, List, [], Option, Some, None, slice_get}
use Rattle.rtrb.specs.Ring.{known_items}
use Rattle.lt_mail.specs.declared.lane.InLane.{InLane}

-- no letter is known in the ring, if it is there
abbrev pub KnowsNone : Option InLane → Type 0
KnowsNone None = Unit {0}
KnowsNone (Some lane) = known_items lane.ring ≡ []

-- no letter is known in a ring but these two
abbrev pub NoneKnownBut : ℕ → ℕ → List InLane → Type 0
NoneKnownBut at own lanes = (node : ℕ) → node ≢ at → node ≢ own → KnowsNone (slice_get lanes node)

-- that is so, where it is said
abbrev pub AreAlone : Bool → ℕ → ℕ → List InLane → Type 0
AreAlone alone at own lanes = alone ≡ true → NoneKnownBut at own lanes
