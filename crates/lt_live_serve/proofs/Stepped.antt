-- Each station takes in a command of each client that has one more.
use Rattle.std.proofs.Common.{◌≡◌, ◌<◌, ◌≤◌, ◌++◌, ◌⊎◌, ℕ, List, [], ◌∷◌, length, Some, Bool, true, false, refl, sym, ap, subst, arith, ◌∙◌, inl, inr, append-nil, slice_get, filter_map, length-append}
use Rattle.std.proofs.lemmas.Bool.{cases_lt}
use Rattle.std.proofs.lemmas.Option.{same_Some}
use mathlib.Core.List.{IsPrefix}
use Rattle.lt_modes.specs.declared.command.Command.{Command}
use Rattle.lt_modes.specs.Script.{ScriptData}
use Rattle.lt_spec.specs.Script.{IsScript}
use Rattle.lt_script.proofs.NameLemmas.{element_at}
use Rattle.lt_spec.specs.NodeMove.{command_if, commands_of, home}
use Rattle.lt_runner.specs.declared.parts.Parts.{Parts}
use Rattle.lt_live.specs.declared.ends.Seat.{Seat}
use Rattle.lt_live.specs.Stations.{may_append, StationData, SeatTurns}
use Rattle.lt_live.specs.Live.{EachStation}
use Rattle.lt_live.specs.Words.{known_commands}
use Rattle.lt_live.proofs.SeatLists.{alike_before, alike_after, alike_join, alike_weaker, each_after}
use Rattle.lt_live_serve.specs.declared.callers.Caller.{Caller}
use Rattle.lt_live_serve.specs.Completing.{Calls, EachCaller, AllSubmitted, appended_at, lack_at, all_lack, AreStationsKept, SameHand, OnlyLooks, CallersLook, Turns, AnyTurns, SameCount, AllTurn, ServesOn, AreServing, AreComplete}
use Rattle.lt_live_serve.proofs.Completed.{Within, advances, no_hand, none_outside}
use Rattle.lt_live_serve.proofs.Lasting.{serving_lasts, serves_turned, same_callers}
use Rattle.lt_live_serve.proofs.Turned.{more_commands, more_appended, falls}
use Rattle.lt_live_serve.proofs.Beside.{Seen, AllBeside, count, seen_at, within, same_clients, no_more_at}

submitted_on : (callers after : List Caller) → EachCaller Calls callers after → AllSubmitted callers → AllSubmitted after
submitted_on callers after calls all k c e =
    let (b, here, on) = alike_before Calls callers after calls k c e in
    let less = on.left in
    let none = all k b here in
    omega (arith, less, none)

pub serving_turned : (script : ScriptData) (more : Bool) (a b : List StationData) (callers : List Caller) → AreServing script a callers → AllTurn more a b
    → AreServing script b callers
serving_turned script more a b callers serving turn =
    serving_lasts script a b callers callers serving
    (alike_weaker AnyTurns ServesOn (λ x y t. serves_turned t.1.turned x y t.1.turns t.1.goes) a b turn.each) (same_callers callers)

-- one client, whose station turned between two looks
module _ (script : ScriptData) (a c : List StationData) (k p q : ℕ) (s : Seen script a k p) (t : Seen script c k q) (some : Bool) (y : StationData) (seat : Seat)
    (turned : Turns some s.station y) (one : SeatTurns y.runner.log.entries s.seat seat) (at : slice_get y.seats p ≡ Some seat) (look : SameHand seat t.seat)
    (runner_is : t.station.runner ≡ y.runner) (is_script : IsScript script) (is_own : IsScript t.station.runner.node.script)
    (same : length t.station.runner.node.script.clients ≡ length script.clients) (fits : Within script t.station.runner.node.script)
    (below : k < length script.clients) where
  can_not : (command : Command) → t.seat.hand ≡ Some command → may_append t.station.runner.node.script k command ≡ false
  can_not command e =
      ap (λ (r : Parts). may_append r.node.script k command) runner_is
      ∙ ap (λ (j : ℕ). may_append y.runner.node.script j command) (sym (sym look.client ∙ t.client_is))
      ∙ turned.turns.hands turned.fits p seat at command (sym look.hand ∙ e)

  moved : (length (commands_of s.station.runner.node.script k) < length (commands_of t.station.runner.node.script k))
      ⊎ (commands_of script k ≡ commands_of s.station.runner.node.script k)
  moved =
      advances y.runner.log.entries (commands_of s.station.runner.node.script k) (commands_of t.station.runner.node.script k) (commands_of script k)
      s.seat seat t.seat one look s.took t.took s.rest s.waits
      (no_hand script t.station.runner.node.script is_script is_own same fits k t.seat.hand (known_commands t.seat) below t.rest t.asks can_not)

-- the client's station before and after: it has appended more of the client's commands, or had all
record Went (script : ScriptData) (a c : List StationData) (k : ℕ) : Type 0 where
  x : StationData
  z : StationData
  before : slice_get a (home script k) ≡ Some x
  now : slice_get c (home script k) ≡ Some z
  moved_on : (length (commands_of x.runner.node.script k) < length (commands_of z.runner.node.script k))
      ⊎ (commands_of script k ≡ commands_of x.runner.node.script k)

whole : {X : Type 0} (xs ys : List X) → IsPrefix xs ys → length ys ≡ length xs → ys ≡ xs
whole {X = X} xs ys h same =
    let none : h.0 ≡ [] = empty h.0 (let sum = length-append xs h.0 in let all = ap (λ (list : List X). length list) h.1 in omega (arith, sum, all, same)) in
    sym h.1 ∙ ap (λ (more : List X). xs ++ more) none ∙ append-nil xs
  where
    empty : (more : List X) → length more ≡ 0 → more ≡ []
    empty [] e = refl
    empty (x ∷ more) e = absurd (cc)

same_there : (stations : List StationData) (q : ℕ) (x y : StationData) → slice_get stations q ≡ Some x → slice_get stations q ≡ Some y → x ≡ y
same_there stations q x y here there = same_Some x y (sym here ∙ there)

looked_seat : (z t : StationData) (p q : ℕ) (seat last found : Seat) → z ≡ t → q ≡ p → slice_get z.seats p ≡ Some last → slice_get t.seats q ≡ Some found
    → SameHand seat last → SameHand seat found
looked_seat z t p q seat last found is same there at hand =
    subst (SameHand seat)
    (same_Some last found (sym there ∙ ap (λ (v : StationData). slice_get v.seats p) is ∙ ap (slice_get t.seats) (sym same) ∙ at)) hand

looked_runner : (y z t : StationData) → z ≡ t → z.runner ≡ y.runner → t.runner ≡ y.runner
looked_runner y z t is same = subst (λ (v : StationData). v.runner ≡ y.runner) is same

commands_same : (some : Bool) (x y w v z : StationData) → Turns some x y → w ≡ y → appended_at w ≡ appended_at x → v ≡ z → v.runner ≡ y.runner
    → z.runner.node.script.commands ≡ x.runner.node.script.commands
commands_same some x y w v z turned same_y count_is same_z runner_is =
    ap (λ (r : Parts). r.node.script.commands) (looked_runner y v z same_z runner_is)
    ∙ whole x.runner.node.script.commands y.runner.node.script.commands (more_commands some x y turned) (sym (ap appended_at same_y) ∙ count_is)

module _ (script : ScriptData) (more : Bool) (stations a b c : List StationData) (callers mid after : List Caller) (is_script : IsScript script)
    (submits : AllSubmitted callers) (first : CallersLook script (length mid) stations callers a mid) (kept_a : AreStationsKept a) (turn : AllTurn more a b)
    (second : CallersLook script (length after) b mid c after) (kept_c : AreStationsKept c) where
  pub all_after : AllSubmitted after
  all_after = submitted_on mid after second.calls (submitted_on callers mid first.calls submits)

  beside_a : AllBeside script a mid
  beside_a = record { serving = first.serving; kept = kept_a; none_left = submitted_on callers mid first.calls submits; beside = first.beside }

  beside_c : AllBeside script c after
  beside_c = record { serving = second.serving; kept = kept_c; none_left = all_after; beside = second.beside }

  went : (k : ℕ) → k < length script.clients → Went script a c k
  went k below =
      let (e, found) = element_at mid k (omega (arith, below, count script a mid beside_a)) in
      let (d, then, on) = alike_after Calls mid after second.calls k e found in
      let s = seen_at script a mid beside_a k e found in
      let t = seen_at script c after beside_c k d then in
      let (y, at_y, turned) = alike_after AnyTurns a b turn.each (home script k) s.station s.here in
      let (z, at_z, looked) = alike_after OnlyLooks b c second.looks (home script k) y at_y in
      let (seat, here, one) = each_after (SeatTurns y.runner.log.entries) s.station.seats y.seats turned.1.turns.each e.session.place s.seat s.at in
      let (last, there, hand) = each_after SameHand y.seats z.seats looked.hands e.session.place seat here in
      let is = same_there c (home script k) z t.station at_z t.here in
      record {
        x = s.station;
        z = t.station;
        before = s.here;
        now = t.here;
        moved_on = moved script a c k e.session.place d.session.place s t turned.0 y seat turned.1 one here
            (looked_seat z t.station e.session.place d.session.place seat last t.seat is on.session.place there t.at hand)
            (looked_runner y z t.station is looked.runner)
            is_script (kept_c (home script k) t.station t.here).is_script
            (same_clients script c after beside_c (home script k) t.station t.here)
            (within script c after beside_c (home script k) t.station t.here) below;
      }

  -- where no station has appended more
  unchanged : more ≡ false → (q : ℕ) (x z : StationData) → slice_get a q ≡ Some x → slice_get c q ≡ Some z
      → z.runner.node.script.commands ≡ x.runner.node.script.commands
  unchanged e q x z here there =
      let (y, at, turned) = alike_after AnyTurns a b turn.each q x here in
      let (w, again, count_is) = alike_after SameCount a b (turn.none e) q x here in
      let (v, now, looked) = alike_after OnlyLooks b c second.looks q y at in
      commands_same turned.0 x y w v z turned.1 (same_there b q w y again at) count_is (same_there c q v z now there) looked.runner

  had_all : (k : ℕ) (old new : List Command) → new ≡ old → (length old < length new) ⊎ (commands_of script k ≡ old) → new ≡ commands_of script k
  had_all k old new same (inl less) = let count_is = ap (λ (list : List Command). length list) same in absurd (omega (arith, less, count_is))
  had_all k old new same (inr all) = same ∙ sym all

  pub complete : more ≡ false → AreComplete script c
  complete e client station here = elim (cases_lt client (length script.clients)) [
    | inl below ↦
        let w = went client below in
        let is : w.z ≡ station = same_Some w.z station (sym w.now ∙ here) in
        let same = unchanged e (home script client) w.x w.z w.before w.now in
        subst (λ (v : StationData). commands_of v.runner.node.script client ≡ commands_of script client) is
        (had_all client (commands_of w.x.runner.node.script client) (commands_of w.z.runner.node.script client)
        (ap (λ (commands : List (ℕ × Command)). filter_map (command_if client) commands) same) w.moved_on)
    | inr past ↦
        let clients_same = same_clients script c after beside_c (home script client) station here in
        none_outside station.runner.node.script client (kept_c (home script client) station here).is_script (omega (arith, past, clients_same))
        ∙ sym (none_outside script client is_script past)
  ]

  looks_less : (x y : StationData) → OnlyLooks x y → lack_at script y ≤ lack_at script x
  looks_less x y h = let same = ap (λ (r : Parts). length r.node.script.commands) h.runner in omega (arith, same)

  turns_less : (x y : StationData) → AnyTurns x y → lack_at script y ≤ lack_at script x
  turns_less x y h = let grown = more_appended h.0 x y h.1 in omega (arith, grown)

  join_less : (x y z : StationData) → lack_at script y ≤ lack_at script x → lack_at script z ≤ lack_at script y → lack_at script z ≤ lack_at script x
  join_less x y z h g = omega (arith, h, g)

  each_less : EachStation (λ (x : StationData) (y : StationData). lack_at script y ≤ lack_at script x) stations c
  each_less =
      alike_join (λ (x : StationData) (y : StationData). lack_at script y ≤ lack_at script x) join_less stations b c
      (alike_join (λ (x : StationData) (y : StationData). lack_at script y ≤ lack_at script x) join_less stations a b
      (alike_weaker OnlyLooks (λ (x : StationData) (y : StationData). lack_at script y ≤ lack_at script x) looks_less stations a first.looks)
      (alike_weaker AnyTurns (λ (x : StationData) (y : StationData). lack_at script y ≤ lack_at script x) turns_less a b turn.each))
      (alike_weaker OnlyLooks (λ (x : StationData) (y : StationData). lack_at script y ≤ lack_at script x) looks_less b c second.looks)

  pub fewer : more ≡ true → all_lack script c < all_lack script stations
  fewer e =
      let g = turn.some e in
      let (x, before, look) = alike_before OnlyLooks stations a first.looks g.place g.x g.before in
      let (z, now, again) = alike_after OnlyLooks b c second.looks g.place g.y g.now in
      let most = no_more_at script c after beside_c is_script g.place z now in
      let same_x = ap (λ (r : Parts). length r.node.script.commands) look.runner in
      let same_z = ap (λ (r : Parts). length r.node.script.commands) again.runner in
      let less = g.less in
      let one : lack_at script z < lack_at script x = omega (arith, most, same_x, same_z, less) in
      falls (lack_at script) stations c each_less g.place x z before now one
