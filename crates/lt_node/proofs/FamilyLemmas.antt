-- What a command asks of a set.
use Rattle.std.proofs.Common.{◌≡◌, ◌≢◌, ◌<◌, ◌≤◌, ◌-◌, ℕ, zero, suc, IfSome, IfNone, eq-eqb, eqb-true, ne_eqb, List, length, slice_index_or, sum_by, arith, sym, subst, ◌+◌, ◌==◌, [], ◌∷◌, Option, Some, None, drop, slice_set, refl, ap, ◌∙◌, append_assoc, if◌then◌else◌, Bool, true, false, All}
use Rattle.std.proofs.lemmas.List.Elements.{All-head, All-rest}
use Rattle.std.proofs.lemmas.List.Sums.{sum_by-cons}
use Rattle.std.proofs.lemmas.Option.{slice_get-get_or}
use Rattle.std.proofs.lemmas.List.{drop_more, get_or_default}
use Rattle.lt_modes.specs.declared.stamp.Stamp.{Stamp}
use Rattle.lt_modes.specs.Freezing.{places_from}
use Rattle.lt_modes.specs.Script.{ScriptData, SetData, family_at, family_of_set}
use Rattle.lt_modes.specs.State.{SetState, Made}
use Rattle.lt_modes.specs.Modes.{locks_of}
use Rattle.lt_lists.specs.Below.{put}
use Rattle.lt_script.specs.Families.{IsNextRelated, IsLastRelated}
use Rattle.lt_spec.specs.NodeMove.{family, related, NodeState, each_touched, touched}
use Rattle.lt_desk.specs.DeskData.{OutData, FitsOut}
use Rattle.lt_core.specs.CoreData.{CoreData, Does, HasRoom}
use Rattle.lt_core.proofs.BoundLemmas.{commands_fit, ends_fit}
use Rattle.lt_core.specs.declared.set_command.SetCommand.TheVariants as set_commands
use Rattle.lt_core.specs.Bound.{RoomToSend}
use Rattle.lt_node.specs.NodeData.{most_sent, first_core, untouched, with_sent, ending, with_sets, sets_in}
use Rattle.lt_node.specs.Sets.{AreSetsOf, SetDoes, SetsData, core_in, locks_by}
use Rattle.lt_node.proofs.NodeLemmas.{put_read}
use Rattle.lt_node.proofs.NodeSets.{other_core, sets_moved}

-- The sets of a family one after the other.

-- the sets of the family from place k on
abbrev pub related_from : ScriptData → ℕ → ℕ → List ℕ
related_from script set k = places_from (λ j (x : SetData). x.family == family script set) k (drop k script.sets)

no_set : SetData
no_set = record { name = []; family = 0 }

related_by : (script : ScriptData) (set k : ℕ) (b : Bool) → k < length script.sets → (family_at script.sets k == family script set) ≡ b
    → related_from script set k ≡ (if b then k ∷ related_from script set (k + 1) else related_from script set (k + 1))
related_by script set k b inside e =
    let first = drop_more script.sets k no_set inside in
    let here : (slice_index_or script.sets k no_set).family ≡ family_at script.sets k = sym (ap family_of_set (slice_get-get_or script.sets k no_set inside)) in
    ap (λ (sets : List SetData). places_from (λ j (x : SetData). x.family == family script set) k sets) first
    ∙ ap (λ (t : Bool). if t then k ∷ related_from script set (k + 1) else related_from script set (k + 1)) (ap (λ (f : ℕ). f == family script set) here ∙ e)

pub related_in : (script : ScriptData) (set k : ℕ) → k < length script.sets → (family_at script.sets k == family script set) ≡ true → related_from script set k ≡ k ∷ related_from script set (k + 1)
related_in script set k inside e = related_by script set k true inside e

pub related_out : (script : ScriptData) (set k : ℕ) → k < length script.sets → (family_at script.sets k == family script set) ≡ false → related_from script set k ≡ related_from script set (k + 1)
related_out script set k inside e = related_by script set k false inside e

-- no set from one place up to the other is of the family
pub record IsGap (sets : List SetData) (f from to : ℕ) : Type 0 where
  pub later : from ≤ to
  pub inside : to ≤ length sets
  pub none : (k : ℕ) → from ≤ k → k < to → (family_at sets k == f) ≡ false

gap_of : (script : ScriptData) (set count from to : ℕ) → from + count ≡ to → IsGap script.sets (family script set) from to → related_from script set from ≡ related_from script set to
gap_of script set zero from to is gap = ap (related_from script set) (omega (arith, is))
gap_of script set (suc m) from to is gap =
    related_out script set from (omega (arith, is, gap.inside)) (gap.none from (omega arith) (omega (arith, is)))
    ∙ gap_of script set m (from + 1) to (omega (arith, is)) (record { later = omega (arith, is); inside = gap.inside; none = λ k above below. gap.none k (omega (arith, above)) below })

pub related_gap : (script : ScriptData) (set from to : ℕ) → IsGap script.sets (family script set) from to → related_from script set from ≡ related_from script set to
related_gap script set from to gap = gap_of script set (to - from) from to (omega (arith, gap.later)) gap

-- A walk over the sets of a family, from each to the next.

-- the place of the next set, or behind all sets
abbrev pub place_of_next : List SetData → Option ℕ → ℕ
place_of_next sets None = length sets
place_of_next sets (Some k) = k

-- the set is the family's next, and P is true of its place
pub record IsHere (sets : List SetData) (f : ℕ) (P : ℕ → Type 0) (k : ℕ) : Type 0 where
  pub inside : k < length sets
  pub mine : (family_at sets k == f) ≡ true
  pub at : P k

-- so it is where there is a next set
pub record IsWalk (sets : List SetData) (f : ℕ) (P : ℕ → Type 0) (next : Option ℕ) : Type 0 where
  pub here : IfSome next (IsHere sets f P)
  pub at : P (place_of_next sets next)

pub walk_here : {sets : List SetData} {f : ℕ} {P : ℕ → Type 0} (next : Option ℕ) (k : ℕ) → IsWalk sets f P next → next ≡ Some k → IsHere sets f P k
walk_here {sets} {f} {P} next k walk some = (subst (IsWalk sets f P) some walk).here

pub walk_over : {sets : List SetData} {f : ℕ} {P : ℕ → Type 0} (next : Option ℕ) → IsWalk sets f P next → next ≡ None → P (length sets)
walk_over {sets} {f} {P} next walk none = (subst (IsWalk sets f P) none walk).at

-- P stays true where no set of the family is between
abbrev pub GoesOn : List SetData → ℕ → (ℕ → Type 0) → Type 0
GoesOn sets f P = (from to : ℕ) → IsGap sets f from to → P from → P to

pub walk_start : {P : ℕ → Type 0} (script : ScriptData) (set first : ℕ) → set < length script.sets → family_at script.sets first ≡ family script set → first ≤ set
    → ((k : ℕ) → k < first → family_at script.sets k ≢ family script set) → GoesOn script.sets (family script set) P → P 0 → IsWalk script.sets (family script set) P (Some first)
walk_start {P} script set first inside mine earlier none goes_on start =
    let at = goes_on 0 first (record {
      later = omega arith;
      inside = omega (arith, earlier, inside);
      none = λ k above below. ne_eqb (family_at script.sets k) (family script set) (none k below);
    }) start in
    record { here = record { inside = omega (arith, earlier, inside); mine = eq-eqb (family_at script.sets first) (family script set) mine; at = at }; at = at }

pub walk_on : {P : ℕ → Type 0} (script : ScriptData) (set k : ℕ) (next : Option ℕ) → k < length script.sets → (family_at script.sets k == family script set) ≡ true
    → IfSome next (IsNextRelated script k) → IfNone next (IsLastRelated script k) → GoesOn script.sets (family script set) P → P (k + 1) → IsWalk script.sets (family script set) P next
walk_on {P} script set k None inside mine some none goes_on done =
    let same = eqb-true (family_at script.sets k) (family script set) mine in
    record {
      here = record {};
      at = goes_on (k + 1) (length script.sets) (record {
        later = omega (arith, inside);
        inside = omega arith;
        none = λ j above below. ne_eqb (family_at script.sets j) (family script set) (λ e. none j (omega (arith, above)) below (e ∙ sym same));
      }) done;
    }
walk_on {P} script set k (Some next) inside mine some none goes_on done =
    let same = eqb-true (family_at script.sets k) (family script set) mine in
    let at = goes_on (k + 1) next (record {
      later = omega (arith, some.later);
      inside = omega (arith, some.inside);
      none = λ j above below. ne_eqb (family_at script.sets j) (family script set) (λ e. some.first j (omega (arith, above)) below (e ∙ sym same));
    }) done in
    record { here = record { inside = some.inside; mine = eq-eqb (family_at script.sets next) (family script set) (some.related ∙ same); at = at }; at = at }

-- the walk ends: fewer sets are left
pub walk_smaller : (script : ScriptData) (k : ℕ) (old next : Option ℕ) → old ≡ Some k → k < length script.sets → IfSome next (IsNextRelated script k)
    → length script.sets - place_of_next script.sets next < length script.sets - place_of_next script.sets old
walk_smaller script k old next some inside is =
    subst (λ (o : Option ℕ). length script.sets - place_of_next script.sets next < length script.sets - place_of_next script.sets o) (sym some) (by_next next is)
  where
    by_next : (o : Option ℕ) → IfSome o (IsNextRelated script k) → length script.sets - place_of_next script.sets o < length script.sets - k
    by_next None is = omega (arith, inside)
    by_next (Some j) is = omega (arith, inside, is.later, is.inside)

-- The moves that end in the sets, one after the other.

-- what is left to do at these sets gives what the whole gives
pub record IsLeft (script : ScriptData) (me : ℕ) (rule : ℕ → SetState → Made) (left : List ℕ) (cores : List CoreData) (out : OutData) (whole : List ℕ) (old : List CoreData) (had : OutData) (n : NodeState) : Type 0 where
  pub node : (each_touched rule left (with_sets script me cores n)).node ≡ (each_touched rule whole (with_sets script me old n)).node
  pub sent : with_sent (each_touched rule left (with_sets script me cores n)) out ≡ with_sent (each_touched rule whole (with_sets script me old n)) had

-- one set is done
pub one_done : (script : ScriptData) (me k : ℕ) (rule : ℕ → SetState → Made) (rest : List ℕ) (cores : List CoreData) (core new : CoreData) (had out : OutData) (n : NodeState) → k < length cores
    → core ≡ slice_index_or cores k (first_core script me k) → Does (rule k core.state) core had new out
    → IsLeft script me rule rest (slice_set cores k new) out (k ∷ rest) cores had n
one_done script me k rule rest cores core new had out n inside at does =
    let first = rule k (sets_in script me cores k) in
    let does : Does first core had new out = subst (λ (c : CoreData). Does (rule k c.state) core had new out) at does in
    let nodes : with_sets script me (slice_set cores k new) n ≡ (touched (with_sets script me cores n) k first).node =
    ap (λ (f : ℕ → SetState). let s : NodeState = record n { set = f } in s)
    (put_read (λ (c : CoreData). c.state) cores (first_core script me) k new inside ∙ ap (λ (v : SetState). put (sets_in script me cores) k v) does.state) in
    let after = each_touched rule rest (touched (with_sets script me cores n) k first).node in
    record {
      node = ap (λ (s : NodeState). (each_touched rule rest s).node) nodes;
      sent = ap (λ (s : NodeState). with_sent (each_touched rule rest s) out) nodes ∙ ap (λ (o : OutData). with_sent after o) does.sent
          ∙ rw (append_assoc had.posts first.posts after.posts, append_assoc had.events first.events after.events) refl;
    }

pub left_then : (script : ScriptData) (me : ℕ) (rule : ℕ → SetState → Made) (a b c : List ℕ) (x y z : List CoreData) (p q r : OutData) (n : NodeState)
    → IsLeft script me rule a x p b y q n → IsLeft script me rule b y q c z r n → IsLeft script me rule a x p c z r n
left_then script me rule a b c x y z p q r n first second = record { node = first.node ∙ second.node; sent = first.sent ∙ second.sent }

-- the end of a move fits
pub end_fits : (dropped : Option ℕ) (stamp : Stamp) (core : CoreData) (out : OutData) → RoomToSend (most_sent core) out → FitsOut (ending dropped stamp core.set core.state) out
end_fits None stamp core out room = ends_fit core.set stamp core.state out (record { posts = omega (arith, room.posts); events = omega (arith, room.events) })
end_fits (Some client) stamp core out room = commands_fit stamp client set_commands.DropAll core.set core.state out room

-- and leaves the room for more
pub end_leaves : (dropped : Option ℕ) (stamp : Stamp) (core new : CoreData) (had out : OutData) (more : ℕ) → Does (ending dropped stamp core.set core.state) core had new out
    → RoomToSend (most_sent core + more) had → RoomToSend more out
end_leaves dropped stamp core new had out more does room =
    let first = ending dropped stamp core.set core.state in
    let exact : OutData = record had { post_room = length had.posts + most_sent core; event_room = length had.events + most_sent core } in
    let fit = end_fits dropped stamp core exact (record { posts = omega arith; events = omega arith }) in
    subst (λ (o : OutData). RoomToSend more o) (sym does.sent) (record { posts = omega (arith, fit.posts, room.posts); events = omega (arith, fit.events, room.events) })

-- before place k the sets of the family are done
pub record IsAt (script : ScriptData) (stamp : Stamp) (dropped : Option ℕ) (set : ℕ) (old : SetsData) (had : OutData) (k : ℕ) (now : SetsData) (out : OutData) : Type 0 where
  pub of : AreSetsOf script stamp.node now
  pub rest : (s : ℕ) → k ≤ s → core_in now s ≡ core_in old s
  pub rooms : All (λ s. HasRoom 2 stamp.clock (core_in old s)) (related_from script set k)
  pub send : RoomToSend (sum_by (λ s. most_sent (core_in old s)) (related_from script set k)) out
  pub left : (n : NodeState) → IsLeft script stamp.node (ending dropped stamp) (related_from script set k) now.cores out (related_from script set 0) old.cores had n

pub at_start : (script : ScriptData) (stamp : Stamp) (dropped : Option ℕ) (set : ℕ) (sets : SetsData) (out : OutData) → AreSetsOf script stamp.node sets
    → All (λ s. HasRoom 2 stamp.clock (core_in sets s)) (related script set) → RoomToSend (sum_by (λ s. most_sent (core_in sets s)) (related script set)) out
    → IsAt script stamp dropped set sets out 0 sets out
at_start script stamp dropped set sets out of rooms send = record { of = of; rest = λ s above. refl; rooms = rooms; send = send; left = λ n. record { node = refl; sent = refl } }

pub at_past : (script : ScriptData) (stamp : Stamp) (dropped : Option ℕ) (set : ℕ) (old : SetsData) (had : OutData) (now : SetsData) (out : OutData)
    → GoesOn script.sets (family script set) (λ k. IsAt script stamp dropped set old had k now out)
at_past script stamp dropped set old had now out from to gap at =
    let same = related_gap script set from to gap in record {
      of = at.of;
      rest = λ s above. at.rest s (omega (arith, above, gap.later));
      rooms = subst (λ (l : List ℕ). All (λ s. HasRoom 2 stamp.clock (core_in old s)) l) same at.rooms;
      send = subst (λ (l : List ℕ). RoomToSend (sum_by (λ s. most_sent (core_in old s)) l) out) same at.send;
      left = λ n. subst (λ (l : List ℕ). IsLeft script stamp.node (ending dropped stamp) l now.cores out (related_from script set 0) old.cores had n) same (at.left n);
    }

-- the next set of the family is ready
pub record IsNext (stamp : Stamp) (now : SetsData) (k more : ℕ) (out : OutData) : Type 0 where
  pub room : HasRoom 2 stamp.clock (core_in now k)
  pub send : RoomToSend (most_sent (core_in now k) + more) out

pub at_next : (script : ScriptData) (stamp : Stamp) (dropped : Option ℕ) (set : ℕ) (old : SetsData) (had : OutData) (k : ℕ) (now : SetsData) (out : OutData)
    → IsAt script stamp dropped set old had k now out → k < length script.sets → (family_at script.sets k == family script set) ≡ true
    → IsNext stamp now k (sum_by (λ s. most_sent (core_in old s)) (related_from script set (k + 1))) out
at_next script stamp dropped set old had k now out at inside mine =
    let in_it = related_in script set k inside mine in
    let rest = related_from script set (k + 1) in
    let rooms = subst (λ (l : List ℕ). All (λ s. HasRoom 2 stamp.clock (core_in old s)) l) in_it at.rooms in
    let sum = ap (λ (l : List ℕ). sum_by (λ s. most_sent (core_in old s)) l) in_it ∙ sum_by-cons (λ (s : ℕ). most_sent (core_in old s)) k rest in
    let same = at.rest k (omega arith) in
    let most = ap most_sent same in
    record {
      room = subst (λ (c : CoreData). HasRoom 2 stamp.clock c) (sym same) (All-head (λ (s : ℕ). HasRoom 2 stamp.clock (core_in old s)) k rest rooms);
      send = record { posts = omega (arith, at.send.posts, sum, most); events = omega (arith, at.send.events, sum, most) };
    }

pub at_ended : (script : ScriptData) (stamp : Stamp) (dropped : Option ℕ) (set : ℕ) (old : SetsData) (had : OutData) (k : ℕ) (now new : SetsData) (out after : OutData)
    → IsAt script stamp dropped set old had k now out → k < length script.sets → (family_at script.sets k == family script set) ≡ true
    → SetDoes k (ending dropped stamp k (core_in now k).state) now out new after → ((more : ℕ) → RoomToSend (most_sent (core_in now k) + more) out → RoomToSend more after)
    → IsAt script stamp dropped set old had (k + 1) new after
at_ended script stamp dropped set old had k now new out after at inside mine does leaves =
    let in_it = related_in script set k inside mine in
    let rest = related_from script set (k + 1) in
    let next = at_next script stamp dropped set old had k now out at inside mine in
    let within : k < length now.cores = omega (arith, inside, at.of.count) in
    let first : core_in now k ≡ slice_index_or now.cores k (first_core script stamp.node k) = get_or_default now.cores k (untouched now.nodes now.me k) (first_core script stamp.node k) within in
    record {
      of = sets_moved script stamp.node k _ now new out after at.of does within;
      rest = λ s above. other_core k _ now new out after does s (λ e. omega (arith, above, e)) ∙ at.rest s (omega (arith, above));
      rooms = All-rest (λ (s : ℕ). HasRoom 2 stamp.clock (core_in old s)) k rest (related_from script set k) in_it at.rooms;
      send = leaves (sum_by (λ s. most_sent (core_in old s)) rest) next.send;
      left = λ n. left_then script stamp.node (ending dropped stamp) rest (k ∷ rest) (related_from script set 0) new.cores now.cores old.cores after out had n
          (subst (λ (l : List CoreData). IsLeft script stamp.node (ending dropped stamp) rest l after (k ∷ rest) now.cores out n) (sym (ap (λ (d : SetsData). d.cores) does.others))
          (one_done script stamp.node k (ending dropped stamp) rest now.cores (core_in now k) (core_in new k) out after n within first does.does))
          (subst (λ (l : List ℕ). IsLeft script stamp.node (ending dropped stamp) l now.cores out (related_from script set 0) old.cores had n) in_it (at.left n));
    }

-- How many locks a client has in a family.

-- the locks counted so far, with those that are left, are all
pub record IsCounted (script : ScriptData) (set client : ℕ) (sets : SetsData) (k locks : ℕ) : Type 0 where
  pub left : locks + locks_by sets client (related_from script set k) ≡ locks_by sets client (related script set)

-- those of the next set are among them
pub counted_next : (script : ScriptData) (set client : ℕ) (sets : SetsData) (k locks : ℕ) → IsCounted script set client sets k locks → k < length script.sets
    → (family_at script.sets k == family script set) ≡ true
    → locks + locks_of (core_in sets k).state.held client + locks_by sets client (related_from script set (k + 1)) ≡ locks_by sets client (related script set)
counted_next script set client sets k locks counted inside mine =
    let all = ap (λ (l : List ℕ). locks_by sets client l) (related_in script set k inside mine) in
    omega (arith, counted.left, all, sum_by-cons (λ (s : ℕ). locks_of (core_in sets s).state.held client) k (related_from script set (k + 1)))

pub counted_in : (script : ScriptData) (set client : ℕ) (sets : SetsData) (k locks held : ℕ) → IsCounted script set client sets k locks → k < length script.sets
    → (family_at script.sets k == family script set) ≡ true → held ≡ locks_of (core_in sets k).state.held client → IsCounted script set client sets (k + 1) (locks + held)
counted_in script set client sets k locks held counted inside mine is =
    record { left = omega (arith, is, counted_next script set client sets k locks counted inside mine) }

pub counted_past : (script : ScriptData) (set client : ℕ) (sets : SetsData) (locks : ℕ)
    → GoesOn script.sets (family script set) (λ k. IsCounted script set client sets k locks)
counted_past script set client sets locks from to gap counted =
    record { left = ap (λ (l : List ℕ). locks + locks_by sets client l) (sym (related_gap script set from to gap)) ∙ counted.left }
