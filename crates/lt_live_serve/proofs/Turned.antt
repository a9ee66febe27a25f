-- Stations make turns, one after the other.
use Rattle.std.proofs.Common.{◌≡◌, ◌<◌, ◌≤◌, ◌+◌, ℕ, zero, suc, List, [], ◌∷◌, length, get_or, Bool, true, false, Option, Some, None, refl, sym, ap, subst, arith, ◌∙◌, inl, inr, sum_by, slice_get, slice_set, ltb-true, ltb-false, length-set}
use Rattle.std.proofs.lemmas.Bool.{cases_eq, cases_lt, false≢true}
use Rattle.std.proofs.lemmas.List.Sums.{sum_by-cons}
use Rattle.std.proofs.lemmas.Option.{same_Some, slice_get-get_or, slice_get_within}
use mathlib.Core.List.{IsPrefix}
use Rattle.lt_modes.specs.Script.{ScriptData}
use Rattle.lt_mail.specs.Words.{Alike}
use Rattle.lt_live.specs.Live.{EachStation}
use Rattle.lt_live.specs.Stations.{StationData}
use Rattle.lt_live.proofs.SeatLists.{alike_self, set_here, set_other}
use Rattle.lt_live.proofs.Finished.{first_few}
use Rattle.lt_live_serve.specs.Completing.{appended_at, IsKept, AreStationsKept, Turns, TurnsAt, AnyTurns, SameCount, SomeGrew, AllTurn}

-- what each station keeps, one after the other

abbrev pub KeptTo : ℕ → List StationData → Type 0
KeptTo n stations = (k : ℕ) (station : StationData) → k < n → slice_get stations k ≡ Some station → IsKept station

pub next_kept : (n : ℕ) (stations : List StationData) (d : StationData) → n < length stations → KeptTo n stations
    → IsKept (get_or stations n d) → KeptTo (n + 1) stations
next_kept n stations d inside before here k station below e = elim (cases_eq k n) [
  | inl at ↦
      subst IsKept (same_Some (get_or stations n d) station (sym (slice_get-get_or stations n d inside) ∙ ap (slice_get stations) (sym at) ∙ e)) here
  | inr apart ↦ before k station (omega (arith, below, apart)) e
]

pub all_kept : (n : ℕ) (stations : List StationData) → length stations ≤ n → KeptTo n stations → AreStationsKept stations
all_kept n stations long h k station e = h k station (omega (arith, slice_get_within stations k station e, long)) e

-- a turn appends commands alone

pub more_commands : (more : Bool) (a b : StationData) → Turns more a b → IsPrefix a.runner.node.script.commands b.runner.node.script.commands
more_commands more a b h =
    subst (λ (s : ScriptData). IsPrefix a.runner.node.script.commands s.commands) (sym h.turns.grew.same.script) h.turns.appends.commands

pub more_appended : (more : Bool) (a b : StationData) → Turns more a b → appended_at a ≤ appended_at b
more_appended more a b h = first_few a.runner.node.script.commands b.runner.node.script.commands (more_commands more a b h)

grown_more : (a b : StationData) → Turns true a b → appended_at a < appended_at b
grown_more a b h = ltb-true (appended_at a) (appended_at b) (sym h.grew)

same_count : (a b : StationData) → Turns false a b → SameCount a b
same_count a b h =
    let most = ltb-false (appended_at a) (appended_at b) (sym h.grew) in
    let least = more_appended false a b h in
    omega (arith, most, least)

-- one station turned

pub turned_at : (more : Bool) (place : ℕ) (stations : List StationData) (x y : StationData) → place < length stations
    → slice_get stations place ≡ Some x → Turns more x y → TurnsAt more place stations (slice_set stations place y)
turned_at more place stations x y inside here one = record {
  x = x;
  y = y;
  before = here;
  now = set_here stations place y inside;
  one = one;
  count = length-set stations place y;
  others = λ k apart. set_other stations place y k apart;
}

-- the first n stations turned, and the others stay
pub record TurnsTo (n : ℕ) (more : Bool) (old new : List StationData) : Type 0 where
  pub count : length new ≡ length old
  pub done : (k : ℕ) → k < n → Alike AnyTurns (slice_get old k) (slice_get new k)
  pub rest : (k : ℕ) → n ≤ k → slice_get new k ≡ slice_get old k
  pub some : more ≡ true → SomeGrew old new
  pub none : more ≡ false → EachStation SameCount old new

same_itself : (a : StationData) → SameCount a a
same_itself a = refl

pub none_turn : (stations : List StationData) → TurnsTo 0 false stations stations
none_turn stations = record {
  count = refl;
  done = λ k below. absurd (omega (arith, below));
  rest = λ k past. refl;
  some = λ e. absurd (false≢true e);
  none = λ e. alike_self SameCount same_itself stations;
}

module _ (n : ℕ) (one more : Bool) (old mid new : List StationData) (h : TurnsTo n more old mid) (at : TurnsAt one n mid new) where
  was : slice_get old n ≡ Some at.x
  was = sym (h.rest n (omega arith)) ∙ at.before

  done : (k : ℕ) → k < n + 1 → Alike AnyTurns (slice_get old k) (slice_get new k)
  done k below = elim (cases_eq k n) [
    | inl here ↦
        subst (λ (j : ℕ). Alike AnyTurns (slice_get old j) (slice_get new j)) (sym here)
        (subst (λ (o : Option StationData). Alike AnyTurns o (slice_get new n)) (sym was)
        (subst (λ (o : Option StationData). Alike AnyTurns (Some at.x) o) (sym at.now) (one, at.one)))
    | inr apart ↦
        subst (λ (o : Option StationData). Alike AnyTurns (slice_get old k) o) (sym (at.others k apart)) (h.done k (omega (arith, below, apart)))
  ]

  rest : (k : ℕ) → n + 1 ≤ k → slice_get new k ≡ slice_get old k
  rest k past = at.others k (λ e. absurd (omega (arith, past, e))) ∙ h.rest k (omega (arith, past))

  -- what grew before has grown
  still : SomeGrew old mid → SomeGrew old new
  still g = elim (cases_eq g.place n) [
    | inl here ↦
        let is : g.y ≡ at.x = same_Some g.y at.x (sym g.now ∙ ap (slice_get mid) here ∙ at.before) in
        let first = g.less in
        let same = ap appended_at is in
        let then = more_appended one at.x at.y at.one in
        record { place = n; x = g.x; y = at.y; before = ap (slice_get old) (sym here) ∙ g.before; now = at.now; less = omega (arith, first, same, then) }
    | inr apart ↦ record { place = g.place; x = g.x; y = g.y; before = g.before; now = at.others g.place apart ∙ g.now; less = g.less }
  ]

  same : EachStation SameCount old mid → SameCount at.x at.y → EachStation SameCount old new
  same before now k = elim (cases_eq k n) [
    | inl here ↦
        subst (λ (j : ℕ). Alike SameCount (slice_get old j) (slice_get new j)) (sym here)
        (subst (λ (o : Option StationData). Alike SameCount o (slice_get new n)) (sym was)
        (subst (λ (o : Option StationData). Alike SameCount (Some at.x) o) (sym at.now) now))
    | inr apart ↦ subst (λ (o : Option StationData). Alike SameCount (slice_get old k) o) (sym (at.others k apart)) (before k)
  ]

pub next_grown : (n : ℕ) (one more : Bool) (old mid new : List StationData) → one ≡ true → TurnsTo n more old mid → TurnsAt one n mid new → TurnsTo (n + 1) true old new
next_grown n true more old mid new e h at = record {
  count = at.count ∙ h.count;
  done = done n true more old mid new h at;
  rest = rest n true more old mid new h at;
  some = λ e. record { place = n; x = at.x; y = at.y; before = was n true more old mid new h at; now = at.now; less = grown_more at.x at.y at.one };
  none = λ e. absurd (false≢true (sym e));
}
next_grown n false more old mid new e h at = absurd (false≢true e)

pub next_same : (n : ℕ) (one more : Bool) (old mid new : List StationData) → one ≡ false → TurnsTo n more old mid → TurnsAt one n mid new → TurnsTo (n + 1) more old new
next_same n false more old mid new e h at = record {
  count = at.count ∙ h.count;
  done = done n false more old mid new h at;
  rest = rest n false more old mid new h at;
  some = λ e. still n false more old mid new h at (h.some e);
  none = λ e. same n false more old mid new h at (h.none e) (same_count at.x at.y at.one);
}
next_same n true more old mid new e h at = absurd (false≢true (sym e))

pub all_turn : (n : ℕ) (more : Bool) (old new : List StationData) → length old ≤ n → TurnsTo n more old new → AllTurn more old new
all_turn n more old new long h = record { each = each; some = h.some; none = h.none }
  where
    by_place : (k : ℕ) (o : Option StationData) → slice_get old k ≡ o → slice_get new k ≡ slice_get old k → n ≤ k → Alike AnyTurns (slice_get old k) (slice_get new k)
    by_place k (Some x) e same past = let inside = slice_get_within old k x e in absurd (omega (arith, inside, long, past))
    by_place k None e same past =
        subst (λ (o : Option StationData). Alike AnyTurns (slice_get old k) o) (sym (same ∙ e))
        (subst (λ (o : Option StationData). Alike AnyTurns o None) (sym e) tt)

    each : EachStation AnyTurns old new
    each k = elim (cases_lt k n) [
      | inl below ↦ h.done k below
      | inr past ↦ by_place k (slice_get old k) refl (h.rest k past) past
    ]

never_more : {X : Type 0} (f : X → ℕ) (xs ys : List X) → ((k : ℕ) → Alike (λ (x : X) (y : X). f y ≤ f x) (slice_get xs k) (slice_get ys k))
    → sum_by f ys ≤ sum_by f xs
never_more f [] [] h = omega arith
never_more f [] (d ∷ ds) h = absurd (h 0)
never_more f (c ∷ cs) [] h = absurd (h 0)
never_more f (c ∷ cs) (d ∷ ds) h =
    let here : f d ≤ f c = h 0 in
    omega (arith, here, never_more f cs ds (λ k. h (suc k)), sum_by-cons f c cs, sum_by-cons f d ds)

-- a sum falls where one of its numbers falls, and none rises
pub falls : {X : Type 0} (f : X → ℕ) (xs ys : List X) → ((k : ℕ) → Alike (λ (x : X) (y : X). f y ≤ f x) (slice_get xs k) (slice_get ys k))
    → (q : ℕ) (x y : X) → slice_get xs q ≡ Some x → slice_get ys q ≡ Some y → f y < f x → sum_by f ys < sum_by f xs
falls f [] ys h zero x y a b less = absurd (cc)
falls f [] ys h (suc q) x y a b less = absurd (cc)
falls f (c ∷ cs) [] h q x y a b less = absurd (h 0)
falls {X = X} f (c ∷ cs) (d ∷ ds) h zero x y a b less =
    let one : f d < f c = subst (λ (v : X). f v < f c) (same_Some y d (sym b)) (subst (λ (v : X). f y < f v) (same_Some x c (sym a)) less) in
    omega (arith, one, never_more f cs ds (λ k. h (suc k)), sum_by-cons f c cs, sum_by-cons f d ds)
falls f (c ∷ cs) (d ∷ ds) h (suc q) x y a b less =
    let here : f d ≤ f c = h 0 in
    omega (arith, here, falls f cs ds (λ k. h (suc k)) q x y a b less, sum_by-cons f c cs, sum_by-cons f d ds)
