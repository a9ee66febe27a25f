-- Stations make turns, one after the other.
use Rattle.std.proofs.Common.{◌≡◌, ◌≢◌, ◌<◌, ◌≤◌, ◌+◌, ℕ, zero, suc, List, [], ◌∷◌, length, Bool, true, false, Option, Some, None, refl, sym, ap, subst, arith, ◌∙◌, inl, inr, nat_lt, sum_by, slice_get, slice_set, ltb-true, ltb-false, length-set, length-append}
use Rattle.std.proofs.lemmas.Bool.{cases_eq, cases_lt, false≢true}
use Rattle.std.proofs.lemmas.List.Sums.{sum_by-cons}
use Rattle.std.proofs.lemmas.Option.{same_Some, slice_get_within}
use Rattle.lt_mail.specs.Words.{Alike}
use Rattle.lt_runner.specs.declared.parts.Parts.{Parts}
use Rattle.lt_runner.specs.declared.turning.Turned.{Turned}
use Rattle.lt_runner.specs.declared.turning.Turned.TheVariants.{Moved, NoMemory}
use Rattle.lt_live.specs.Live.{EachStation, GoesOn}
use Rattle.lt_live.specs.Stations.{StationData, StationTurns, StaySeated}
use Rattle.lt_live.proofs.SeatLists.{alike_self, set_here, set_other}
use Rattle.lt_live.proofs.Finished.{first_few}
use Rattle.lt_live_callers.specs.Taking.{GoesFurther, commands_at, room_at, IsKeptStation, TurnLeaves, StationTakesTurn, StationTakesTurnAt, StationMayTurn, AppendsNothing, SomeLess, AllStationsTurn}
use Rattle.lt_live_callers.proofs.Lasting.{turn_further}

-- One turn.

-- a station that went further has no more room
pub no_more_room : (a b : StationData) → GoesFurther a.runner b.runner → room_at b ≤ room_at a
no_more_room a b on =
    let moves = first_few a.runner.log.entries b.runner.log.entries on.log in
    let commands = first_few a.runner.node.script.commands b.runner.node.script.commands on.commands in
    let limit = on.goes.limit in
    omega (arith, moves, commands, limit)

further_turned : (more : Bool) (a b : StationData) → StationTakesTurn more a b → GoesFurther a.runner b.runner
further_turned more a b h = turn_further h.turned a b h.turns h.goes.runner

pub less_room : (a b : StationData) (t : StationMayTurn a b) → room_at b ≤ room_at a
less_room a b t = no_more_room a b (further_turned t.0 a b t.1)

-- it made a move
moved_less : (a b : StationData) → StationTurns Moved a.runner a.seats b.runner b.seats → GoesOn a.runner b.runner → room_at b < room_at a
moved_less a b turns goes =
    let on = turn_further Moved a b turns goes in
    let between = turns.appends.runner in
    let one = ap (λ (log : List _). length log) turns.ends.0.1 in
    let added = length-append turns.between.log.entries (turns.ends.0.0 ∷ []) in
    let before = ap (λ (p : Parts). length p.log.entries) between in
    let room = turns.ends.1 in
    let most = ap (λ (p : Parts). p.limit) between in
    let commands = first_few a.runner.node.script.commands b.runner.node.script.commands on.commands in
    let limit = goes.limit in
    omega (arith, one, added, before, room, most, commands, limit)

-- it appended more commands
appended_less : (a b : StationData) → GoesFurther a.runner b.runner → IsKeptStation b → commands_at a < commands_at b → room_at b < room_at a
appended_less a b on kept grew =
    let moves = first_few a.runner.log.entries b.runner.log.entries on.log in
    let limit = on.goes.limit in
    let few = kept.is_script.few_commands in
    omega (arith, moves, limit, few, grew)

leaves_by : (more : Bool) (a b : StationData) → GoesFurther a.runner b.runner → IsKeptStation b → more ≡ nat_lt (commands_at a) (commands_at b) → TurnLeaves more a b
leaves_by true a b on kept e = appended_less a b on kept (ltb-true (commands_at a) (commands_at b) (sym e))
leaves_by false a b on kept e =
    let most = ltb-false (commands_at a) (commands_at b) (sym e) in
    let least = first_few a.runner.node.script.commands b.runner.node.script.commands on.commands in
    omega (arith, most, least)

pub turned_moved : (turned : Turned) (a b : StationData) → turned ≡ Moved → StationTurns turned a.runner a.seats b.runner b.seats → GoesOn a.runner b.runner
    → StaySeated a.seats b.seats → IsKeptStation a → IsKeptStation b → StationTakesTurn true a b
turned_moved turned a b is turns goes stay before now = record {
  turned = turned;
  fits = λ e. absurd (cc (is, e));
  turns = turns;
  goes = record { runner = goes; seated = stay };
  before = before;
  now = now;
  leaves = moved_less a b (subst (λ (t : Turned). StationTurns t a.runner a.seats b.runner b.seats) is turns) goes;
}

pub turned_still : (turned : Turned) (more : Bool) (a b : StationData) → turned ≢ NoMemory → more ≡ nat_lt (commands_at a) (commands_at b)
    → StationTurns turned a.runner a.seats b.runner b.seats → GoesOn a.runner b.runner → StaySeated a.seats b.seats → IsKeptStation a → IsKeptStation b → StationTakesTurn more a b
turned_still turned more a b fits e turns goes stay before now = record {
  turned = turned;
  fits = fits;
  turns = turns;
  goes = record { runner = goes; seated = stay };
  before = before;
  now = now;
  leaves = leaves_by more a b (turn_further turned a b turns goes) now e;
}

-- One station after the other.

pub turned_at : (more : Bool) (place : ℕ) (stations : List StationData) (x y : StationData) → place < length stations
    → slice_get stations place ≡ Some x → StationTakesTurn more x y → StationTakesTurnAt more place stations (slice_set stations place y)
turned_at more place stations x y inside here one = record {
  x = x;
  y = y;
  before = here;
  now = set_here stations place y inside;
  one = one;
  count = length-set stations place y;
  others = λ k apart. set_other stations place y k apart;
}

-- the first n stations turned, and the others stay
pub record TurnsTo (n : ℕ) (more : Bool) (old new : List StationData) : Type 0 where
  pub count : length new ≡ length old
  pub done : (k : ℕ) → k < n → Alike StationMayTurn (slice_get old k) (slice_get new k)
  pub rest : (k : ℕ) → n ≤ k → slice_get new k ≡ slice_get old k
  pub some : more ≡ true → SomeLess old new
  pub none : more ≡ false → EachStation AppendsNothing old new

same_itself : (a : StationData) → AppendsNothing a a
same_itself a = refl

pub none_turn : (stations : List StationData) → TurnsTo 0 false stations stations
none_turn stations = record {
  count = refl;
  done = λ k below. absurd (omega (arith, below));
  rest = λ k past. refl;
  some = λ e. absurd (false≢true e);
  none = λ e. alike_self AppendsNothing same_itself stations;
}

module _ (n : ℕ) (one more : Bool) (old mid new : List StationData) (h : TurnsTo n more old mid) (at : StationTakesTurnAt one n mid new) where
  was : slice_get old n ≡ Some at.x
  was = sym (h.rest n (omega arith)) ∙ at.before

  done : (k : ℕ) → k < n + 1 → Alike StationMayTurn (slice_get old k) (slice_get new k)
  done k below = elim (cases_eq k n) [
    | inl here ↦
        subst (λ (j : ℕ). Alike StationMayTurn (slice_get old j) (slice_get new j)) (sym here)
        (subst (λ (o : Option StationData). Alike StationMayTurn o (slice_get new n)) (sym was)
        (subst (λ (o : Option StationData). Alike StationMayTurn (Some at.x) o) (sym at.now) (one, at.one)))
    | inr apart ↦
        subst (λ (o : Option StationData). Alike StationMayTurn (slice_get old k) o) (sym (at.others k apart)) (h.done k (omega (arith, below, apart)))
  ]

  rest : (k : ℕ) → n + 1 ≤ k → slice_get new k ≡ slice_get old k
  rest k past = at.others k (λ e. absurd (omega (arith, past, e))) ∙ h.rest k (omega (arith, past))

  -- what had less room before has less still
  still : SomeLess old mid → SomeLess old new
  still g = elim (cases_eq g.place n) [
    | inl here ↦
        let is : g.y ≡ at.x = same_Some g.y at.x (sym g.now ∙ ap (slice_get mid) here ∙ at.before) in
        let first = g.less in
        let same = ap room_at is in
        let then = less_room at.x at.y (one, at.one) in
        record { place = n; x = g.x; y = at.y; before = ap (slice_get old) (sym here) ∙ g.before; now = at.now; less = omega (arith, first, same, then) }
    | inr apart ↦ record { place = g.place; x = g.x; y = g.y; before = g.before; now = at.others g.place apart ∙ g.now; less = g.less }
  ]

  same : EachStation AppendsNothing old mid → AppendsNothing at.x at.y → EachStation AppendsNothing old new
  same before now k = elim (cases_eq k n) [
    | inl here ↦
        subst (λ (j : ℕ). Alike AppendsNothing (slice_get old j) (slice_get new j)) (sym here)
        (subst (λ (o : Option StationData). Alike AppendsNothing o (slice_get new n)) (sym was)
        (subst (λ (o : Option StationData). Alike AppendsNothing (Some at.x) o) (sym at.now) now))
    | inr apart ↦ subst (λ (o : Option StationData). Alike AppendsNothing (slice_get old k) o) (sym (at.others k apart)) (before k)
  ]

pub next_less : (n : ℕ) (one more : Bool) (old mid new : List StationData) → one ≡ true → TurnsTo n more old mid → StationTakesTurnAt one n mid new → TurnsTo (n + 1) true old new
next_less n true more old mid new e h at = record {
  count = at.count ∙ h.count;
  done = done n true more old mid new h at;
  rest = rest n true more old mid new h at;
  some = λ e. record { place = n; x = at.x; y = at.y; before = was n true more old mid new h at; now = at.now; less = at.one.leaves };
  none = λ e. absurd (false≢true (sym e));
}
next_less n false more old mid new e h at = absurd (false≢true e)

pub next_same : (n : ℕ) (one more : Bool) (old mid new : List StationData) → one ≡ false → TurnsTo n more old mid → StationTakesTurnAt one n mid new → TurnsTo (n + 1) more old new
next_same n false more old mid new e h at = record {
  count = at.count ∙ h.count;
  done = done n false more old mid new h at;
  rest = rest n false more old mid new h at;
  some = λ e. still n false more old mid new h at (h.some e);
  none = λ e. same n false more old mid new h at (h.none e) at.one.leaves;
}
next_same n true more old mid new e h at = absurd (false≢true (sym e))

pub all_turn : (n : ℕ) (more : Bool) (old new : List StationData) → length old ≤ n → TurnsTo n more old new → AllStationsTurn more old new
all_turn n more old new long h = record { each = each; some = h.some; none = h.none }
  where
    by_place : (k : ℕ) (o : Option StationData) → slice_get old k ≡ o → slice_get new k ≡ slice_get old k → n ≤ k → Alike StationMayTurn (slice_get old k) (slice_get new k)
    by_place k (Some x) e same past = let inside = slice_get_within old k x e in absurd (omega (arith, inside, long, past))
    by_place k None e same past =
        subst (λ (o : Option StationData). Alike StationMayTurn (slice_get old k) o) (sym (same ∙ e))
        (subst (λ (o : Option StationData). Alike StationMayTurn o None) (sym e) tt)

    each : EachStation StationMayTurn old new
    each k = elim (cases_lt k n) [
      | inl below ↦ h.done k below
      | inr past ↦ by_place k (slice_get old k) refl (h.rest k past) past
    ]

never_more : {X : Type 0} (f : X → ℕ) (xs ys : List X) → ((k : ℕ) → Alike (λ (x : X) (y : X). f y ≤ f x) (slice_get xs k) (slice_get ys k))
    → sum_by f ys ≤ sum_by f xs
never_more f [] [] h = omega arith
never_more f [] (d ∷ ds) h = absurd (h 0)
never_more f (c ∷ cs) [] h = absurd (h 0)
never_more f (c ∷ cs) (d ∷ ds) h =
    let here : f d ≤ f c = h 0 in
    omega (arith, here, never_more f cs ds (λ k. h (suc k)), sum_by-cons f c cs, sum_by-cons f d ds)

-- a sum falls where one of its numbers falls, and none rises
pub falls : {X : Type 0} (f : X → ℕ) (xs ys : List X) → ((k : ℕ) → Alike (λ (x : X) (y : X). f y ≤ f x) (slice_get xs k) (slice_get ys k))
    → (q : ℕ) (x y : X) → slice_get xs q ≡ Some x → slice_get ys q ≡ Some y → f y < f x → sum_by f ys < sum_by f xs
falls f [] ys h zero x y a b less = absurd (cc)
falls f [] ys h (suc q) x y a b less = absurd (cc)
falls f (c ∷ cs) [] h q x y a b less = absurd (h 0)
falls {X = X} f (c ∷ cs) (d ∷ ds) h zero x y a b less =
    let one : f d < f c = subst (λ (v : X). f v < f c) (same_Some y d (sym b)) (subst (λ (v : X). f y < f v) (same_Some x c (sym a)) less) in
    omega (arith, one, never_more f cs ds (λ k. h (suc k)), sum_by-cons f c cs, sum_by-cons f d ds)
falls f (c ∷ cs) (d ∷ ds) h (suc q) x y a b less =
    let here : f d ≤ f c = h 0 in
    omega (arith, here, falls f cs ds (λ k. h (suc k)) q x y a b less, sum_by-cons f c cs, sum_by-cons f d ds)
