-- Stations taken apart and put together again.
use Rattle.std.proofs.Common.{◌≡◌, ◌<◌, ◌++◌, ℕ, suc, List, [], ◌∷◌, length, map, get_or, Option, Some, None, refl, sym, ap, subst, arith, ◌∙◌, slice_get, remove, option_map, append_assoc}
use Rattle.std.proofs.lemmas.List.{length-map, map-append}
use Rattle.std.proofs.lemmas.Option.{same_Some, slice_get-get_or, slice_get-map}
use Rattle.lt_modes.specs.Script.{ScriptData}
use Rattle.lt_spec.specs.Script.{IsScript}
use Rattle.lt_spec.specs.NodeMove.{commands_of, home, with_commands, AreAt, SameAt}
use Rattle.lt_spec.specs.declared.ending.Ending.{Ending}
use Rattle.lt_mail.specs.Words.{Alike}
use Rattle.lt_runner.specs.declared.parts.Parts.{Parts}
use Rattle.lt_runner.specs.Kept.{Grew}
use Rattle.lt_threads.specs.Pushes.{MovedOn}
use Rattle.lt_threads.specs.Meeting.{EachIs, IsCrew, AreShares}
use Rattle.lt_threads.proofs.Each.{each_before, each_len}
use Rattle.lt_live.specs.declared.ends.Seat.{Seat}
use Rattle.lt_live.specs.Live.{GoesOn, EachStation}
use Rattle.lt_live.specs.Stations.{runner_of, StationData, IsStation, IsSeated}
use Rattle.lt_live.proofs.KeptStations.{station_grew}
use Rattle.lt_live_serve.specs.declared.benches.Bench.{Bench}
use Rattle.lt_live_serve.specs.declared.callers.Caller.{Caller}
use Rattle.lt_live_serve.specs.Apart.{seats_of, seats_on, AreParts, GoTogether}
use Rattle.lt_live_serve.specs.Completing.{AreStationsKept, NoReplyWaits, ServesOn, AreServing, AreComplete}
use Rattle.lt_live_serve.proofs.Lasting.{mapped_at, serving_lasts, same_callers}

-- the runners are a crew of the script, once each client's commands were appended at its node
pub crew_of : (script : ScriptData) (stations : List StationData) (callers : List Caller) → IsScript script → AreServing script stations callers
    → AreComplete script stations → IsCrew script (map runner_of stations)
crew_of script stations callers is_script h complete = record {
  is_script = is_script;
  count = shares.count;
  each = λ k p here. record {
    script_is = same k p here;
    me = (shares.each k p here).me;
    limit = (shares.each k p here).limit;
  };
  links = shares.links;
}
  where
    shares : AreShares (with_commands script []) (map runner_of stations)
    shares = h.live.runners

    same : (k : ℕ) (p : Parts) → slice_get (map runner_of stations) k ≡ Some p → SameAt k p.node.script script
    same k p here =
        let (station, there, is) = mapped_at runner_of stations k p here in
        let own : p.node.script ≡ with_commands script p.node.script.commands = (shares.each k p here).script_is in
        record {
          rest = sym (ap (λ (s : ScriptData). with_commands s script.commands) own);
          own = λ client at.
              let home_is : home script client ≡ k = sym (ap (λ (s : ScriptData). home s client) own) ∙ at in
              let all = complete client station (ap (slice_get stations) home_is ∙ there) in
              sym (ap (λ (q : Parts). commands_of q.node.script client) (sym is) ∙ all);
        }

-- putting together

pub together_removed : (runners : List Parts) (benches : List Bench) → GoTogether runners benches → GoTogether (remove runners 0) (remove benches 0)
together_removed [] [] h = h
together_removed [] (b ∷ bs) h = let count = h.count in absurd (omega (arith, count))
together_removed (p ∷ ps) [] h = let count = h.count in absurd (omega (arith, count))
together_removed (p ∷ ps) (b ∷ bs) h = record {
  count = let count = h.count in omega (arith, count);
  each = λ k q c here there. h.each (suc k) q c here there;
}

pub some_bench : (runners : List Parts) (benches : List Bench) → GoTogether runners benches → 0 < length runners → 0 < length benches
some_bench runners benches h some = let count = h.count in omega (arith, count, some)

pub first_together : (runners : List Parts) (benches : List Bench) (p : Parts) (b : Bench) → GoTogether runners benches → 0 < length runners
    → p ≡ get_or runners 0 p → b ≡ get_or benches 0 b → IsStation p (seats_on b)
first_together runners benches p b h some first second =
    h.each 0 p b (slice_get-get_or runners 0 p some ∙ ap Some (sym first))
    (slice_get-get_or benches 0 b (some_bench runners benches h some) ∙ ap Some (sym second))

-- what was first is mapped from what was added last
moved_one : {X Y : Type 0} (f : Y → X) (ys : List Y) (y : Y) (xs all : List X) → map f ys ++ xs ≡ all → 0 < length xs → f y ≡ get_or xs 0 (f y)
    → map f (ys ++ y ∷ []) ++ remove xs 0 ≡ all
moved_one f ys y [] all h some e = absurd (omega (arith, some))
moved_one {X = X} f ys y (x ∷ xs) all h some e =
    ap (λ (zs : List X). zs ++ xs) (map-append f ys (y ∷ []))
    ∙ append_assoc (map f ys) (f y ∷ []) xs
    ∙ ap (λ (z : X). map f ys ++ z ∷ xs) e
    ∙ h

map_removed : {X Y : Type 0} (f : X → Y) (xs : List X) → map f (remove xs 0) ≡ remove (map f xs) 0
map_removed f [] = refl
map_removed f (x ∷ xs) = refl

first_mapped : {X Y : Type 0} (f : X → Y) (xs : List X) (x : X) → 0 < length xs → x ≡ get_or xs 0 x → f x ≡ get_or (map f xs) 0 (f x)
first_mapped f [] x some e = absurd (omega (arith, some))
first_mapped f (y ∷ xs) x some e = ap f e

-- the stations that were made, and then the parts that are left
pub record Puts (stations : List StationData) (left all : List Parts) (benches every : List Bench) : Type 0 where
  pub runners : map runner_of stations ++ left ≡ all
  pub seats : map seats_of stations ++ map seats_on benches ≡ map seats_on every
  pub together : GoTogether left benches

pub next_put : (stations : List StationData) (runners all : List Parts) (benches every : List Bench) (s : StationData)
    → map runner_of stations ++ runners ≡ all → map seats_of stations ++ map seats_on benches ≡ map seats_on every → GoTogether runners benches → 0 < length runners
    → (p : Parts) (b : Bench) → p ≡ get_or runners 0 p → b ≡ get_or benches 0 b → s ≡ record { runner = p; seats = b.seats.items }
    → (later : List StationData) (left : List Parts) (rest : List Bench) → later ≡ stations ++ s ∷ [] → left ≡ remove runners 0 → rest ≡ remove benches 0
    → Puts later left all rest every
next_put stations runners all benches every s first second together some p b here there is later left rest pushed gone away =
    let few = some_bench runners benches together some in
    let runner : s.runner ≡ get_or runners 0 s.runner = subst (λ (q : Parts). q ≡ get_or runners 0 q) (sym (ap runner_of is)) here in
    let seats : s.seats ≡ get_or (map seats_on benches) 0 s.seats =
    subst (λ (q : List Seat). q ≡ get_or (map seats_on benches) 0 q) (sym (ap seats_of is)) (first_mapped seats_on benches b few there) in
    let made : Puts (stations ++ s ∷ []) (remove runners 0) all (remove benches 0) every = record {
      runners = moved_one runner_of stations s runners all first some runner;
      seats =
          ap (λ (zs : List (List Seat)). map seats_of (stations ++ s ∷ []) ++ zs) (map_removed seats_on benches)
          ∙ moved_one seats_of stations s (map seats_on benches) (map seats_on every) second (omega (arith, few, length-map benches seats_on)) seats;
      together = together_removed runners benches together;
    } in
    subst (λ (list : List StationData). Puts list left all rest every) (sym pushed)
    (subst (λ (list : List Parts). Puts (stations ++ s ∷ []) list all rest every) (sym gone)
    (subst (λ (list : List Bench). Puts (stations ++ s ∷ []) (remove runners 0) all list every) (sym away) made))

-- the seats of runners that made moves meanwhile

seats_there : (stations : List StationData) (benches : List Bench) (k : ℕ) (station : StationData) (b : Bench) → map seats_of stations ≡ map seats_on benches
    → slice_get stations k ≡ Some station → slice_get benches k ≡ Some b → seats_on b ≡ station.seats
seats_there stations benches k station b same here there =
    same_Some (seats_on b) station.seats
    (sym (slice_get-map seats_on benches k ∙ ap (option_map seats_on) there)
    ∙ ap (λ (xs : List (List Seat)). slice_get xs k) (sym same)
    ∙ (slice_get-map seats_of stations k ∙ ap (option_map seats_of) here))

pub same_length : (stations : List StationData) (runners later : List Parts) (benches : List Bench) → AreParts stations runners benches
    → EachIs Grew runners later → length later ≡ length stations
same_length stations runners later benches parts grew =
    each_len Grew runners later grew ∙ sym (ap (λ (rs : List Parts). length rs) parts.runners_are) ∙ length-map stations runner_of

pub go_together : (stations : List StationData) (runners later : List Parts) (benches : List Bench) → AreStationsKept stations → AreParts stations runners benches
    → EachIs Grew runners later → GoTogether later benches
go_together stations runners later benches kept parts grew = record {
  count =
      sym (length-map benches seats_on)
      ∙ sym (ap (λ (xs : List (List Seat)). length xs) parts.benches_are)
      ∙ length-map stations seats_of
      ∙ sym (same_length stations runners later benches parts grew);
  each = λ k p b here there.
      let (old, was, grows) = each_before Grew runners later grew k p here in
      let (station, at, is) = mapped_at runner_of stations k old (ap (λ (rs : List Parts). slice_get rs k) parts.runners_are ∙ was) in
      let seats : seats_on b ≡ station.seats = seats_there stations benches k station b parts.benches_are at there in
      subst (λ (seats_now : List Seat). IsStation p seats_now) (sym seats)
      (station_grew old p station.seats (subst (λ (q : Parts). IsStation q station.seats) is (kept k station at).is_station) grows);
}

goes_grown : (a b : Parts) → Grew a b → GoesOn a b
goes_grown a b grew =
    let same = grew.same in
    record {
      script = same.script ∙ ap (λ (s : ScriptData). with_commands a.node.script s.commands) (sym same.script);
      own = λ before. subst (λ (s : ScriptData). AreAt a.node.script a.node.me s.commands) (sym same.script) before;
      me = same.me;
      limit = same.limit;
      ends = same.ends;
    }

module _ (stations later : List StationData) (runners moved : List Parts) (benches : List Bench) (parts : AreParts stations runners benches)
    (again : AreParts later moved benches) (grew : EachIs Grew runners moved) where
  pub stations_grown : EachStation ServesOn stations later
  stations_grown k = by_two (slice_get stations k) (slice_get later k) refl refl runner seats
    where
      runner : Alike Grew (option_map runner_of (slice_get stations k)) (option_map runner_of (slice_get later k))
      runner =
          subst (λ (o : Option Parts). Alike Grew o (option_map runner_of (slice_get later k))) (slice_get-map runner_of stations k)
          (subst (λ (o : Option Parts). Alike Grew (slice_get (map runner_of stations) k) o) (slice_get-map runner_of later k)
          (subst (λ (rs : List Parts). Alike Grew (slice_get rs k) (slice_get (map runner_of later) k)) (sym parts.runners_are)
          (subst (λ (rs : List Parts). Alike Grew (slice_get runners k) (slice_get rs k)) (sym again.runners_are) (grew k))))

      seats : option_map seats_of (slice_get later k) ≡ option_map seats_of (slice_get stations k)
      seats =
          sym (slice_get-map seats_of later k)
          ∙ ap (λ (xs : List (List Seat)). slice_get xs k) (again.benches_are ∙ sym parts.benches_are)
          ∙ slice_get-map seats_of stations k

      by_two : (x y : Option StationData) → slice_get stations k ≡ x → slice_get later k ≡ y → Alike Grew (option_map runner_of x) (option_map runner_of y)
          → option_map seats_of y ≡ option_map seats_of x → Alike ServesOn x y
      by_two None None e f g same = tt
      by_two None (Some y) e f g same = g
      by_two (Some x) None e f g same = g
      by_two (Some x) (Some y) e f g same = record {
        goes = record {
          runner = goes_grown x.runner y.runner g;
          seated = λ s seated. subst (λ (list : List Seat). IsSeated s list) (sym (same_Some y.seats x.seats same)) seated;
        };
        has_all = λ had. (g.same.gone ∙ had.0, g.same.commands_gone ∙ had.1);
        waits = λ none. subst NoReplyWaits (sym (same_Some y.seats x.seats same)) none;
      }

  pub serving_moved : (script : ScriptData) (callers : List Caller) → AreServing script stations callers → AreServing script later callers
  serving_moved script callers h = serving_lasts script stations later callers callers h stations_grown (same_callers callers)

pub moved_on : (script : ScriptData) (end : Ending) (stations later : List StationData) (runners moved : List Parts) (benches : List Bench) → AreParts stations runners benches
    → AreParts later moved benches → MovedOn script end runners moved → MovedOn script end (map runner_of stations) (map runner_of later)
moved_on script end stations later runners moved benches parts again h =
    subst (λ (rs : List Parts). MovedOn script end rs (map runner_of later)) (sym parts.runners_are)
    (subst (λ (rs : List Parts). MovedOn script end runners rs) (sym again.runners_are) h)
