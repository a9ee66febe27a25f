-- Where no ask is given up, an unanswered ask is a live one, and nobody waits behind a void ask.
use Rattle.std.proofs.Common.{◌≡◌, ℕ, zero, suc, List, [], ◌∷◌, ◌++◌, length, Option, None, Some, Bool, false, refl, ap, ap₂, ◌∙◌, ◌==◌, ◌&&◌, ◌||◌, not, filter, flat_map, map, if◌then◌else◌}
use Rattle.std.specs.List.{list_any}
use Rattle.lt_modes.specs.declared.ask.Ask.{Ask}
use Rattle.lt_modes.specs.Script.{ScriptData}
use Rattle.lt_modes.specs.Serving.{is_gone}
use Rattle.lt_modes.specs.Waiting.{pending_ask}
use Rattle.lt_lists.specs.Below.{any_below}
use Rattle.lt_spec.specs.NodeMove.{home}
use Rattle.lt_spec.specs.Facts.{state_at}
use Rattle.lt_spec.specs.World.{World, IsUnmarked}
use Rattle.lt_spec.specs.Holdings.{kept_if, behind_void_if, live_ask, holds_against, waits_behind, waits_for, waits_behind_void}
use Rattle.lt_spec.specs.Rings.{Graph, VoidLine, numbers_below, report}
use Rattle.lt_law_waiting.specs.WaitingLaws.{stands_if, UnmarkedWaits, UnmarkedReport}

any_same : (n : ℕ) (f g : ℕ → Bool) → ((k : ℕ) → f k ≡ g k) → any_below n f ≡ any_below n g
any_same zero f g same = refl
any_same (suc n) f g same = ap₂ ◌||◌ (any_same n f g same) (same n)

nothing_below : (n : ℕ) (f : ℕ → Bool) → ((k : ℕ) → f k ≡ false) → any_below n f ≡ false
nothing_below zero f none = refl
nothing_below (suc n) f none = ap₂ ◌||◌ (nothing_below n f none) (none n)

module _ (script : ScriptData) (w : World) (unmarked : IsUnmarked w) where
  not_gone : (s q client : ℕ) → is_gone (state_at w s q) client ≡ false
  not_gone s q client = ap (list_any (λ other. other == client)) (unmarked q s)

  is_live : (s q client : ℕ) → live_ask (state_at w s q) client ≡ pending_ask (state_at w s q) client
  is_live s q client = ap (λ (b : Bool). if b then None else pending_ask (state_at w s q) client) (not_gone s q client)

  kept_same : (s other : ℕ) (o : Option Ask) → kept_if script w s other o ≡ stands_if script w s other o
  kept_same s other None = refl
  kept_same s other (Some ask) =
      ap (λ (b : Bool). holds_against script w s ask.mode other || (not b && waits_behind script w s other ask.client)) (not_gone s (home script other) other)

  void_none : (s other : ℕ) (o : Option Ask) → behind_void_if script w s other o ≡ false
  void_none s other None = refl
  void_none s other (Some ask) = ap (λ (b : Bool). b && waits_behind script w s other ask.client) (not_gone s (home script other) other)

pub unmarked_waits : UnmarkedWaits
unmarked_waits script w unmarked client other =
    ap (λ (b : Bool). not (client == other) && b)
    (any_same (length script.sets) (λ s. kept_if script w s other (live_ask (state_at w s (home script client)) client))
    (λ s. stands_if script w s other (pending_ask (state_at w s (home script client)) client))
    (λ s. kept_same script w unmarked s other (live_ask (state_at w s (home script client)) client)
    ∙ ap (stands_if script w s other) (is_live script w unmarked s (home script client) client)))

-- nobody waits behind a void ask
pub none_behind : (script : ScriptData) (w : World) → IsUnmarked w → (client other : ℕ) → waits_behind_void script w client other ≡ false
none_behind script w unmarked client other =
    nothing_below (length script.sets) (λ s. behind_void_if script w s other (live_ask (state_at w s (home script client)) client))
    (λ s. void_none script w unmarked s other (live_ask (state_at w s (home script client)) client))

none_pass : (test : ℕ → Bool) (xs : List ℕ) → ((x : ℕ) → test x ≡ false) → filter test xs ≡ []
none_pass test [] none = refl
none_pass test (x ∷ rest) none = ap₂ (λ (b : Bool) (l : List ℕ). if b then x ∷ l else l) (none x) (none_pass test rest none)

no_lines : (n : ℕ) (graph : Graph) (xs : List ℕ) → ((c d : ℕ) → graph c d ≡ false)
    → flat_map (λ c. map (VoidLine c) (filter (graph c) (numbers_below n))) xs ≡ []
no_lines n graph [] none = refl
no_lines n graph (c ∷ rest) none =
    ap₂ ◌++◌ (ap (map (VoidLine c)) (none_pass (graph c) (numbers_below n) (none c))) (no_lines n graph rest none)

nothing_added : {X : Type 0} (xs : List X) → xs ++ [] ≡ xs
nothing_added [] = refl
nothing_added {X} (x ∷ rest) = ap (λ (l : List X). x ∷ l) (nothing_added rest)

pub unmarked_report : UnmarkedReport
unmarked_report script w unmarked =
    ap (λ (l : List _). report (length script.clients) (waits_for script w) ++ l)
    (no_lines (length script.clients) (waits_behind_void script w) (numbers_below (length script.clients)) (none_behind script w unmarked))
    ∙ nothing_added (report (length script.clients) (waits_for script w))
