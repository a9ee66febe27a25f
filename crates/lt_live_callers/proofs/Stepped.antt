-- Each station takes in a command of each client that has one more.
use Rattle.std.proofs.Common.{◌≡◌, ◌<◌, ◌≤◌, ◌++◌, ◌⊎◌, ℕ, List, [], ◌∷◌, length, Some, None, Bool, true, false, refl, sym, ap, subst, arith, ◌∙◌, inl, inr, append-nil, slice_get, filter_map, length-append}
use Rattle.std.proofs.lemmas.Option.{same_Some, slice_get_within}
use mathlib.Core.List.{IsPrefix}
use Rattle.lt_modes.specs.declared.command.Command.{Command}
use Rattle.lt_modes.specs.Script.{ScriptData}
use Rattle.lt_spec.specs.NodeMove.{command_if, commands_of, home}
use Rattle.lt_spec.specs.Script.{IsScript}
use Rattle.lt_runner.specs.declared.parts.Parts.{Parts}
use Rattle.lt_live.specs.declared.ends.Seat.{Seat}
use Rattle.lt_live.specs.declared.ends.Session.{Session}
use Rattle.lt_live.specs.Live.{SaysSame}
use Rattle.lt_live.specs.Stations.{may_append, StationData, SeatTurns}
use Rattle.lt_live.specs.Words.{submitted, known_commands}
use Rattle.lt_live.proofs.SeatLists.{alike_before, alike_after, alike_self, alike_weaker, each_after}
use Rattle.lt_live_callers.specs.Taking.{HaveTakenAll, StationTakesOn, AreAsking, OnlyTakes, commands_at, room_at, all_room, SeatKeepsHand, StationOnlyLooks, SessionsLook, StationTakesTurn, StationMayTurn, AppendsNothing, AllStationsTurn}
use Rattle.lt_live_callers.proofs.Missing.{advances, no_hand}
use Rattle.lt_live_callers.proofs.Lasting.{turn_further, serves_turned, says_itself, asking_lasts, takes_join}
use Rattle.lt_live_callers.proofs.Turned.{no_more_room, falls}
use Rattle.lt_live_callers.proofs.Beside.{Seen, HaveTaken, taken_kept, taken_looked, AllBeside, seen_at, within, same_clients}

pub takes_turned : (script : ScriptData) (more : Bool) (a b : List StationData) (sessions : List Session) → AreAsking script a sessions → AllStationsTurn more a b
    → OnlyTakes script a sessions b sessions
takes_turned script more a b sessions asking turn =
    let serves = alike_weaker StationMayTurn StationTakesOn (λ x y t. serves_turned t.1.turned x y t.1.turns t.1.goes) a b turn.each in
    let says = alike_self SaysSame says_itself sessions in
    record { asking = asking_lasts script a b sessions sessions asking serves says; serves = serves; says = says }

-- one client, whose station turned between two looks
module _ (script : ScriptData) (a c : List StationData) (k : ℕ) (u v : Session) (s : Seen a script k u) (t : Seen c script k v) (some : Bool) (y : StationData) (seat : Seat)
    (turned : StationTakesTurn some s.station y) (one : SeatTurns y.runner.log.entries s.seat seat) (at : slice_get y.seats u.place ≡ Some seat) (look : SeatKeepsHand seat t.seat)
    (runner_is : t.station.runner ≡ y.runner) (clients : length t.station.runner.node.script.clients ≡ length script.clients)
    (below : k < length script.clients) where
  can_not : (command : Command) → t.seat.hand ≡ Some command → may_append t.station.runner.node.script k command ≡ false
  can_not command e =
      ap (λ (r : Parts). may_append r.node.script k command) runner_is
      ∙ ap (λ (j : ℕ). may_append y.runner.node.script j command) (sym (sym look.client ∙ t.client_is))
      ∙ turned.turns.hands turned.fits u.place seat at command (sym look.hand ∙ e)

  abbrev Empty : Type 0
  Empty = t.seat.hand ≡ None

  pub moved : Empty → (length (commands_of s.station.runner.node.script k) < length (commands_of t.station.runner.node.script k))
      ⊎ (submitted u ≡ commands_of s.station.runner.node.script k)
  moved none =
      advances y.runner.log.entries (commands_of s.station.runner.node.script k) (commands_of t.station.runner.node.script k) (submitted u)
      s.seat seat t.seat one look s.took t.took s.rest s.waits none

whole : {X : Type 0} (xs ys : List X) → IsPrefix xs ys → length ys ≡ length xs → ys ≡ xs
whole {X = X} xs ys h same =
    let none : h.0 ≡ [] = empty h.0 (let sum = length-append xs h.0 in let all = ap (λ (list : List X). length list) h.1 in omega (arith, sum, all, same)) in
    sym h.1 ∙ ap (λ (more : List X). xs ++ more) none ∙ append-nil xs
  where
    empty : (more : List X) → length more ≡ 0 → more ≡ []
    empty [] e = refl
    empty (x ∷ more) e = absurd (cc)

same_there : (stations : List StationData) (q : ℕ) (x y : StationData) → slice_get stations q ≡ Some x → slice_get stations q ≡ Some y → x ≡ y
same_there stations q x y here there = same_Some x y (sym here ∙ there)

looked_seat : (z t : StationData) (p q : ℕ) (seat last found : Seat) → z ≡ t → q ≡ p → slice_get z.seats p ≡ Some last → slice_get t.seats q ≡ Some found
    → SeatKeepsHand seat last → SeatKeepsHand seat found
looked_seat z t p q seat last found is same there at hand =
    subst (SeatKeepsHand seat)
    (same_Some last found (sym there ∙ ap (λ (v : StationData). slice_get v.seats p) is ∙ ap (slice_get t.seats) (sym same) ∙ at)) hand

-- a list that didn't grow had all
had_all : (all old new : List Command) → new ≡ old → (length old < length new) ⊎ (all ≡ old) → new ≡ all
had_all all old new same (inl less) = let count_is = ap (λ (list : List Command). length list) same in absurd (omega (arith, less, count_is))
had_all all old new same (inr is) = same ∙ sym is

module _ (script : ScriptData) (more : Bool) (stations a b c : List StationData) (sessions mid after : List Session)
    (first : SessionsLook script (length mid) stations sessions a mid) (turn : AllStationsTurn more a b)
    (second : SessionsLook script (length after) b mid c after) where
  had_a : HaveTaken a
  had_a q x here =
      let (y, there, turned) = alike_after StationMayTurn a b turn.each q x here in
      taken_kept x turned.1.before

  had_c : HaveTaken c
  had_c q z here =
      let (y, there, looked) = alike_before StationOnlyLooks b c second.looks q z here in
      let (x, was, turned) = alike_before StationMayTurn a b turn.each q y there in
      taken_looked y z looked (taken_kept y turned.1.now)

  beside_a : AllBeside script a mid
  beside_a = record { asking = first.all.asking; had = had_a; beside = first.beside }

  beside_c : AllBeside script c after
  beside_c = record { asking = second.all.asking; had = had_c; beside = second.beside }

  -- where no station has appended more
  complete : more ≡ false → (client : ℕ) (u v : Session) → slice_get mid client ≡ Some u → slice_get after client ≡ Some v → SaysSame u v
      → (station : StationData) → slice_get c (home script client) ≡ Some station → commands_of station.runner.node.script client ≡ submitted v
  complete e client u v found then on station here =
      let s = seen_at script a mid beside_a client u found in
      let t = seen_at script c after beside_c client v then in
      let (y, at_y, turned) = alike_after StationMayTurn a b turn.each (home script client) s.station s.here in
      let (w, again, count_is) = alike_after AppendsNothing a b (turn.none e) (home script client) s.station s.here in
      let (z, at_z, looked) = alike_after StationOnlyLooks b c second.looks (home script client) y at_y in
      let (seat, there, one) = each_after (SeatTurns y.runner.log.entries) s.station.seats y.seats turned.1.turns.each u.place s.seat s.at in
      let (last, place, hand) = each_after SeatKeepsHand y.seats z.seats looked.hands u.place seat there in
      let is : z ≡ t.station = same_there c (home script client) z t.station at_z t.here in
      let same_y : w ≡ y = same_there b (home script client) w y again at_y in
      let runner_is : t.station.runner ≡ y.runner = subst (λ (x : StationData). x.runner ≡ y.runner) is looked.runner in
      let same : y.runner.node.script.commands ≡ s.station.runner.node.script.commands =
      whole s.station.runner.node.script.commands y.runner.node.script.commands (turn_further turned.1.turned s.station y turned.1.turns turned.1.goes.runner).commands
      (sym (ap commands_at same_y) ∙ count_is) in
      let lists : commands_of t.station.runner.node.script client ≡ commands_of s.station.runner.node.script client =
      ap (λ (p : Parts). commands_of p.node.script client) runner_is ∙ ap (λ (commands : List (ℕ × Command)). filter_map (command_if client) commands) same in
      let hands = looked_seat z t.station u.place v.place seat last t.seat is on.same.place place t.at hand in
      let clients = same_clients script c after beside_c (home script client) t.station t.here in
      let below : client < length script.clients = let inside = slice_get_within after client v then in omega (arith, inside, second.all.asking.live.count) in
      let kept : IsScript t.station.runner.node.script = subst (λ (p : Parts). IsScript p.node.script) (sym runner_is) turned.1.now.is_script in
      let none = no_hand script t.station.runner.node.script kept clients (within script c after beside_c (home script client) t.station t.here) client t.seat.hand
      (known_commands t.seat) (submitted v) below t.few t.rest t.asks
      (can_not script a c client u v s t turned.0 y seat turned.1 one there hands runner_is clients below) in
      let all = had_all (submitted u) (commands_of s.station.runner.node.script client) (commands_of t.station.runner.node.script client) lists
      (moved script a c client u v s t turned.0 y seat turned.1 one there hands runner_is clients below none) in
      ap (λ (x : StationData). commands_of x.runner.node.script client) (same_there c (home script client) station t.station here t.here) ∙ all ∙ sym on.submitted

  pub all_taken : more ≡ false → HaveTakenAll script c after
  all_taken e client v then station here =
      let (u, found, on) = alike_before SaysSame mid after second.all.says client v then in
      complete e client u v found then on station here

  pub takes_more : OnlyTakes script stations sessions c after
  takes_more =
      takes_join script stations a c sessions mid after first.all
      (takes_join script a b c mid mid after (takes_turned script more a b mid first.all.asking turn) second.all)

  no_more : (x y : StationData) → StationTakesOn x y → room_at y ≤ room_at x
  no_more x y on = no_more_room x y on.further

  pub less : more ≡ true → all_room c < all_room stations
  less e =
      let g = turn.some e in
      let (x, before, look) = alike_before StationOnlyLooks stations a first.looks g.place g.x g.before in
      let (z, now, again) = alike_after StationOnlyLooks b c second.looks g.place g.y g.now in
      let one : room_at z < room_at x =
      subst (λ (p : Parts). room_at (record { runner = p; seats = z.seats }) < room_at x) (sym again.runner)
      (subst (λ (p : Parts). room_at (record { runner = g.y.runner; seats = z.seats }) < room_at (record { runner = p; seats = x.seats })) look.runner g.less) in
      falls room_at stations c (alike_weaker StationTakesOn (λ (x : StationData) (y : StationData). room_at y ≤ room_at x) no_more stations c takes_more.serves)
      g.place x z before now one
