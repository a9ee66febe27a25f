-- How callers end.
use Rattle.std.specs.Prelude.{◌≡◌, ◌≢◌, ◌⊎◌, ◌<◌, ◌≤◌, ℕ, Bool, true, List, Some, None, slice_get}
use Rattle.lt_live_callers.specs.declared.served.Called.{Called}

module _ {C : Type 0} where
  -- the caller needs no more steps, as it said at the end, or may make none, since a command of its was refused
  abbrev pub NeedsNoStep : Called C → Type 0
  NeedsNoStep called = (called.done ≡ true) ⊎ (called.refused ≢ None)

  -- so it is of each
  abbrev pub AreOver : List (Called C) → Type 0
  AreOver callers = (client : ℕ) (called : Called C) → slice_get callers client ≡ Some called → NeedsNoStep called

  -- each said at the end that it is done
  abbrev pub AreDone : List (Called C) → Type 0
  AreDone callers = (client : ℕ) (called : Called C) → slice_get callers client ≡ Some called → called.done ≡ true

  -- each was asked at the end whether it is done
  abbrev pub HaveSaid : (C → Bool → Type 0) → List (Called C) → Type 0
  HaveSaid says callers = (client : ℕ) (called : Called C) → slice_get callers client ≡ Some called
      → says called.caller called.done

  -- so many of these rounds were made; if fewer, then because no caller needs or may make a step
  pub record MadeRounds (says : C → Bool → Type 0) (rounds made : ℕ) (callers : List (Called C)) : Type 0 where
    pub most : made ≤ rounds
    pub early : made < rounds → AreOver callers
    pub said : HaveSaid says callers
