-- What a search among clients finds.
use Rattle.std.proofs.Common.{◌≡◌, ℕ, zero, suc, ◌<◌, inl, inr, List, [], ◌∷◌, Some, None, Bool, true, false, refl, sym, ap, arith, ◌∙◌, ◌≢◌, length, Option, ◌||◌, if◌then◌else◌, Contains, ◌==◌, not, find, eq-eqb, ne_eqb, eqb-true}
use Rattle.std.specs.List.{list_any}
use Rattle.std.proofs.lemmas.Bool.{or_cases, false≢true, and_parts, and_from}
use Rattle.lt_modes.specs.declared.ask.Ask.{Ask}
use Rattle.lt_modes.specs.Script.{ScriptData}
use Rattle.lt_modes.specs.Serving.{is_gone}
use Rattle.lt_modes.specs.Waiting.{waits, pending_ask}
use Rattle.lt_modes.specs.State.{SetState}
use Rattle.lt_lists.specs.Below.{any_below}
use Rattle.lt_lists.proofs.Members.{contains_first, contains_later, list_any-at}
use Rattle.lt_lists.proofs.Searches.{any_below_at}
use Rattle.lt_spec.specs.NodeMove.{home}
use Rattle.lt_spec.specs.Facts.{state_at}
use Rattle.lt_spec.specs.World.{World, is_waiting}
use Rattle.lt_spec.specs.Holdings.{is_kept_by, kept_if, is_behind_void, behind_void_if, live_ask, waits_for, waits_behind_void}
use Rattle.lt_law_waiting.specs.WaitingLaws.{OnlyWaitersWait, OnlyWaitersAreBehind}

-- a search that finds something finds it at some number
pub any_below_which : (n : ℕ) (test : ℕ → Bool) → any_below n test ≡ true → (k : ℕ) × (k < n) × (test k ≡ true)
any_below_which zero test e = cc
any_below_which (suc n) test e = elim (or_cases (any_below n test) (test n) e) [
  | inl before ↦ let found = any_below_which n test before in (found.0, omega (arith, found.1), found.2)
  | inr last ↦ (n, omega arith, last)
]

-- a search that may find something finds it
pub find_some : {X : Type 0} (test : X → Bool) (xs : List X) → list_any test xs ≡ true → (x : X) × (find test xs ≡ Some x) × Contains xs x × (test x ≡ true)
find_some test [] e = absurd (false≢true e)
find_some test (x ∷ rest) e = by_test (test x) refl e (λ f. find_some test rest f)
  where
    by_test : (t : Bool) → test x ≡ t → list_any test (x ∷ rest) ≡ true → (list_any test rest ≡ true → (y : _) × (find test rest ≡ Some y) × Contains rest y × (test y ≡ true))
        → (y : _) × ((if t then Some x else find test rest) ≡ Some y) × Contains (x ∷ rest) y × (test y ≡ true)
    by_test true e any again = (x, refl, contains_first x x rest refl, e)
    by_test false e any again = let found = again (ap (λ (b : Bool). b || list_any test rest) (sym e) ∙ any) in (found.0, found.1, contains_later x found.0 rest found.2, found.3)

-- and finds nothing only where nothing passes
pub find_none : {X : Type 0} (test : X → Bool) (xs : List X) → find test xs ≡ None → list_any test xs ≡ false
find_none test [] e = refl
find_none test (x ∷ rest) e = by_test (test x) e (λ f. find_none test rest f)
  where
    by_test : (t : Bool) → (if t then Some x else find test rest) ≡ None → (find test rest ≡ None → list_any test rest ≡ false) → (t || list_any test rest) ≡ false
    by_test true e again = cc
    by_test false e again = again e

-- what is found passes, and is there
pub find_is : {X : Type 0} (test : X → Bool) (xs : List X) (d : X) → find test xs ≡ Some d → Contains xs d × (test d ≡ true)
find_is test [] d e = cc
find_is test (x ∷ rest) d e = by_test (test x) refl e (λ f. find_is test rest d f)
  where
    by_test : (t : Bool) → test x ≡ t → (if t then Some x else find test rest) ≡ Some d → (find test rest ≡ Some d → Contains rest d × (test d ≡ true))
        → Contains (x ∷ rest) d × (test d ≡ true)
    by_test true f g again = let same : x ≡ d = cc in (contains_first x d rest same, sym (ap test same) ∙ f)
    by_test false f g again = let found = again g in (contains_later x d rest found.0, found.1)

-- What it means that a client waits for another one: a live ask of it, which that one keeps.

-- a client's live ask is its unanswered ask, which wasn't given up
live_is : (s : SetState) (c : ℕ) (ask : Ask) → live_ask s c ≡ Some ask → (is_gone s c ≡ false) × (pending_ask s c ≡ Some ask)
live_is s c ask e = by_test (is_gone s c) refl e
  where
    by_test : (t : Bool) → is_gone s c ≡ t → (if t then None else pending_ask s c) ≡ Some ask → (is_gone s c ≡ false) × (pending_ask s c ≡ Some ask)
    by_test true is e = cc
    by_test false is e = (is, e)

pub live_from : (s : SetState) (c : ℕ) (ask : Ask) → is_gone s c ≡ false → pending_ask s c ≡ Some ask → live_ask s c ≡ Some ask
live_from s c ask live first = ap (λ (b : Bool). if b then None else pending_ask s c) live ∙ first

-- an ask that is kept by another client
pub kept_waits : (script : ScriptData) (w : World) (s c d : ℕ) (ask : Ask) → s < length script.sets
    → live_ask (state_at w s (home script c)) c ≡ Some ask → c ≢ d → is_kept_by script w s d ask ≡ true → waits_for script w c d ≡ true
kept_waits script w s c d ask in_sets first apart kept =
    and_from _ _ (ap not (ne_eqb c d apart))
    (any_below_at (length script.sets) s (λ k. kept_if script w k d (live_ask (state_at w k (home script c)) c)) in_sets
    (ap (kept_if script w s d) first ∙ kept))

-- an ask that stands behind a void ask of another client
pub behind_waits : (script : ScriptData) (w : World) (s c d : ℕ) (ask : Ask) → s < length script.sets
    → live_ask (state_at w s (home script c)) c ≡ Some ask → is_behind_void script w s d ask ≡ true → waits_behind_void script w c d ≡ true
behind_waits script w s c d ask in_sets first behind =
    any_below_at (length script.sets) s (λ k. behind_void_if script w k d (live_ask (state_at w k (home script c)) c)) in_sets
    (ap (behind_void_if script w s d) first ∙ behind)

-- a live ask of the client of which this holds, for its set
pub record LiveAsk (script : ScriptData) (w : World) (c : ℕ) (test : ℕ → Ask → Bool) : Type 0 where
  pub set : ℕ
  pub ask : Ask
  pub in_sets : set < length script.sets
  pub there : Contains (state_at w set (home script c)).pending ask
  pub own : ask.client ≡ c
  pub live : is_gone (state_at w set (home script c)) c ≡ false
  pub kept : test set ask ≡ true

live_which : (script : ScriptData) (w : World) (c : ℕ) (test : ℕ → Option Ask → Bool) → ((s : ℕ) → test s None ≡ false)
    → any_below (length script.sets) (λ s. test s (live_ask (state_at w s (home script c)) c)) ≡ true → LiveAsk script w c (λ s ask. test s (Some ask))
live_which script w c test never e = by_ask (live_ask (state_at w set.0 (home script c)) c) refl set.2
  where
    set : (s : ℕ) × (s < length script.sets) × (test s (live_ask (state_at w s (home script c)) c) ≡ true)
    set = any_below_which (length script.sets) (λ k. test k (live_ask (state_at w k (home script c)) c)) e

    by_ask : (o : Option Ask) → live_ask (state_at w set.0 (home script c)) c ≡ o → test set.0 o ≡ true → LiveAsk script w c (λ s ask. test s (Some ask))
    by_ask None first kept = absurd (false≢true (sym (never set.0) ∙ kept))
    by_ask (Some ask) first kept =
        let is = live_is (state_at w set.0 (home script c)) c ask first in
        let found = find_is (λ (a : Ask). a.client == c) (state_at w set.0 (home script c)).pending ask is.1 in
        record { set = set.0; ask = ask; in_sets = set.1; there = found.0; own = eqb-true ask.client c found.1; live = is.0; kept = kept }

-- where the client waits for the other one, this ask of it is kept
abbrev pub KeptAsk : ScriptData → World → ℕ → ℕ → Type 0
KeptAsk script w c d = LiveAsk script w c (λ s ask. is_kept_by script w s d ask)

pub waits_kept : (script : ScriptData) (w : World) (c d : ℕ) → waits_for script w c d ≡ true → KeptAsk script w c d
waits_kept script w c d e = live_which script w c (λ s. kept_if script w s d) (λ s. refl) (and_parts (not (c == d)) _ e).1

pub behind_kept : (script : ScriptData) (w : World) (c d : ℕ) → waits_behind_void script w c d ≡ true
    → LiveAsk script w c (λ s ask. is_behind_void script w s d ask)
behind_kept script w c d e = live_which script w c (λ s. behind_void_if script w s d) (λ s. refl) e

-- a client with a live ask waits
pub ask_waits : (script : ScriptData) (w : World) (s c : ℕ) (ask : Ask) → s < length script.sets → Contains (state_at w s (home script c)).pending ask → ask.client ≡ c
    → is_gone (state_at w s (home script c)) c ≡ false → is_waiting script w c ≡ true
ask_waits script w s c ask in_sets there own live =
    any_below_at (length script.sets) s (λ k. waits (state_at w k (home script c)) c) in_sets
    (and_from _ _ (list_any-at (λ (a : Ask). a.client == c) (state_at w s (home script c)).pending ask there (eq-eqb ask.client c own)) (ap not live))

pub only_waiters_wait : OnlyWaitersWait
only_waiters_wait script w client other e =
    let kept = waits_kept script w client other e in
    ask_waits script w kept.set client kept.ask kept.in_sets kept.there kept.own kept.live

pub only_waiters_are_behind : OnlyWaitersAreBehind
only_waiters_are_behind script w client other e =
    let kept = behind_kept script w client other e in
    ask_waits script w kept.set client kept.ask kept.in_sets kept.there kept.own kept.live
