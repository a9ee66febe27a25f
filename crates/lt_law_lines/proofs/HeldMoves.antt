-- The lines of a node's move count what it holds.
use Rattle.std.proofs.Common.{◌≡◌, ◌≢◌, ℕ, zero, suc, ◌+◌, ◌<◌, ◌≤◌, inl, inr, List, [], ◌∷◌, length, Option, Some, None, Bool, true, false, refl, sym, ap, subst, arith, ◌∙◌, ◌⊎◌, ◌==◌, ◌&&◌, not, if◌then◌else◌, Contains, IsTrue, fold, slice_index_or, slice_get, ne_eqb}
use Rattle.std.specs.List.{AllByRecursion}
use Rattle.std.proofs.lemmas.Bool.{cases_eq}
use Rattle.std.proofs.lemmas.List.Elements.{All-filter}
use Rattle.std.proofs.lemmas.List.Sums.{fold-append}
use Rattle.lt_modes.specs.declared.stamp.Stamp.{Stamp}
use Rattle.lt_modes.specs.declared.command.Command.{Command}
use Rattle.lt_modes.specs.declared.command.Command.TheVariants.{Lock, Unlock, Try, Change, DropAll, Withdraw}
use Rattle.lt_modes.specs.declared.event.Event.{Event}
use Rattle.lt_modes.specs.declared.moves.Step.{Step}
use Rattle.lt_modes.specs.declared.moves.Step.TheVariants.{Act, Take}
use Rattle.lt_modes.specs.Script.{family_of_set, ScriptData, SetData}
use Rattle.lt_modes.specs.State.{SetState, Letter, Made}
use Rattle.lt_modes.specs.Modes.{is_of}
use Rattle.lt_modes.specs.SetMove.{finish, lock, try, unlock, change, drop, dropped, withdraw}
use Rattle.lt_modes.specs.Taking.{take as take_letter}
use Rattle.lt_lists.specs.Below.{put}
use Rattle.lt_spec.specs.NodeMove.{home, family, is_related, related, IsWhole, HasTargetsAt, NodeState, NodeMade, no_move, node_waits, next_command, act_stamp, take_stamp, at_clock, one_made, node_act, node_take, touched, each_touched, drop_all, obey}
use Rattle.lt_spec.specs.Holdings.{Holding, holding, is_dropped}
use Rattle.lt_model.specs.Homes.{Homes, IsStateAtHome, IsRowAtHome, IsBodyAtHome}
use Rattle.lt_spec.specs.World.{World, is_enabled, is_some_letter, take_front, node_move}
use Rattle.lt_lists.proofs.Puts.{put-same, put-other}
use Rattle.lt_model.proofs.PathsMove.{has_mail_parts}
use Rattle.lt_model.proofs.HomesMove.{maker, next_targets, related_below}
use Rattle.lt_model.proofs.NodeEffects.{IsOnce, once_or_aside}
use Rattle.lt_model.proofs.TryEffects.{command_rules}
use Rattle.lt_law_invariant.proofs.Freezes.{places-which, places-at}
use Rattle.lt_law_accounts.proofs.RowTotals.{total, total_dropped}
use Rattle.lt_law_lines.proofs.LineCounts.{count_after}
use Rattle.lt_law_lines.proofs.LineRules.{LinesFollow, follows, line_acts, finish_lines, take_lines, withdraw_lines}

abbrev pub AtHome : ScriptData → ℕ → NodeState → Type 0
AtHome script q n = (s : ℕ) → IsStateAtHome script q (n.set s)

-- the locks of this key at the node
abbrev pub held_at : NodeState → Holding → ℕ
held_at n k = total (n.set k.set).held k.client k.mode

-- the lines of what a node made tell what it holds
pub record NodeFollows (script : ScriptData) (q : ℕ) (n : NodeState) (made : NodeMade) : Type 0 where
  pub nodes : AtHome script q made.node
  pub own : (k : Holding) → home script k.client ≡ q → k.set < length script.sets → held_at made.node k ≡ fold (count_after script k) (held_at n k) made.events
  pub aside : (k : Holding) (c : ℕ) → home script k.client ≢ q → fold (count_after script k) c made.events ≡ c
  pub beyond : (k : Holding) → length script.sets ≤ k.set → fold (count_after script k) 0 made.events ≡ 0

touched_home : (script : ScriptData) (q set : ℕ) (n : NodeState) (m : Made) → AtHome script q n → IsStateAtHome script q m.state → AtHome script q (touched n set m).node
touched_home script q set n m h own s = elim (cases_eq s set) [
  | inl e ↦ subst (λ (k : ℕ). IsStateAtHome script q (put n.set set m.state k)) (sym e) (subst (IsStateAtHome script q) (sym (put-same n.set set m.state)) own)
  | inr d ↦ subst (IsStateAtHome script q) (sym (put-other n.set set m.state s d)) (h s)
]

touched_own : (script : ScriptData) (q set : ℕ) (n : NodeState) (m : Made) → LinesFollow script q set (n.set set).held m → (k : Holding)
    → held_at (touched n set m).node k ≡ fold (count_after script k) (held_at n k) m.events
touched_own script q set n m l k = elim (cases_eq k.set set) [
  | inl e ↦
      ap (λ (t : SetState). total t.held k.client k.mode) (ap (put n.set set m.state) e ∙ put-same n.set set m.state) ∙ l.own k.client k.mode
      ∙ ap (λ (s : ℕ). fold (count_after script (holding k.client s k.mode)) (total (n.set s).held k.client k.mode) m.events) (sym e)
  | inr d ↦ ap (λ (t : SetState). total t.held k.client k.mode) (put-other n.set set m.state k.set d) ∙ sym (l.aside k (held_at n k) (inl d))
]

touched_follows : (script : ScriptData) (q set : ℕ) (n : NodeState) (m : Made) → set < length script.sets → AtHome script q n → follows script q set (n.set set) m → NodeFollows script q n (touched n set m)
touched_follows script q set n m in_sets h rule =
    let made = rule (h set) in
    record {
      nodes = touched_home script q set n m h made.0;
      own = λ k own below. touched_own script q set n m made.1 k;
      aside = λ k c other. made.1.aside k c (inr other);
      beyond = λ k above. made.1.aside k 0 (inl (λ e. omega (arith, e, above, in_sets)));
    }

none_follows : (script : ScriptData) (q : ℕ) (n : NodeState) → AtHome script q n → NodeFollows script q n (no_move n)
none_follows script q n h = record { nodes = h; own = λ k own below. refl; aside = λ k c other. refl; beyond = λ k above. refl }

-- the end of the move in several sets
each_finishes : (script : ScriptData) (stamp : Stamp) (sets : List ℕ) → AllByRecursion (λ set. set < length script.sets) sets → stamp.node < script.nodes → (n : NodeState)
    → AtHome script stamp.node n → NodeFollows script stamp.node n (each_touched (λ k. finish k stamp) sets n)
each_finishes script stamp [] in_sets in_nodes n h = none_follows script stamp.node n h
each_finishes script stamp (set ∷ rest) in_sets in_nodes n h =
    let m = finish set stamp (n.set set) in
    let first = touched_follows script stamp.node set n m in_sets.0 h (finish_lines script set stamp in_sets.0 in_nodes (n.set set)) in
    let next = (touched n set m).node in
    let later = each_finishes script stamp rest in_sets.1 in_nodes next first.nodes in
    let more = (each_touched (λ k. finish k stamp) rest next).events in
    record {
      nodes = later.nodes;
      own = λ k own below. later.own k own below ∙ ap (λ (c : ℕ). fold (count_after script k) c more) (first.own k own below) ∙ sym (fold-append (count_after script k) (held_at n k) m.events more);
      aside = λ k c other. fold-append (count_after script k) c m.events more ∙ ap (λ (x : ℕ). fold (count_after script k) x more) (first.aside k c other) ∙ later.aside k c other;
      beyond = λ k above. fold-append (count_after script k) 0 m.events more ∙ ap (λ (x : ℕ). fold (count_after script k) x more) (first.beyond k above) ∙ later.beyond k above;
    }

-- what a client drops in several sets
record NodeDrops (script : ScriptData) (q other : ℕ) (sets : List ℕ) (n : NodeState) (made : NodeMade) : Type 0 where
  nodes : AtHome script q made.node
  once : (k : Holding) → IsOnce k.set sets → held_at made.node k ≡ fold (count_after script k) (if k.client == other then 0 else held_at n k) made.events
  never : (k : Holding) → AllByRecursion (λ s. s ≢ k.set) sets → (held_at made.node k ≡ held_at n k) × ((c : ℕ) → fold (count_after script k) c made.events ≡ c)
  aside : (k : Holding) (c : ℕ) → home script k.client ≢ q → fold (count_after script k) c made.events ≡ c

each_drops : (script : ScriptData) (stamp : Stamp) (other : ℕ) (sets : List ℕ) → AllByRecursion (λ set. set < length script.sets) sets → stamp.node < script.nodes → (n : NodeState)
    → AtHome script stamp.node n → ((s : ℕ) (t : SetState) → IsStateAtHome script stamp.node t → IsStateAtHome script stamp.node (dropped other t))
    → NodeDrops script stamp.node other sets n (each_touched (λ k. drop k stamp other) sets n)
each_drops script stamp other [] in_sets in_nodes n h drops = record { nodes = h; once = λ k once. absurd once; never = λ k none. (refl, λ c. refl); aside = λ k c away. refl }
each_drops script stamp other (set ∷ rest) in_sets in_nodes n h drops =
    let m = drop set stamp other (n.set set) in
    let ended = finish_lines script set stamp in_sets.0 in_nodes (dropped other (n.set set)) (drops set (n.set set) (h set)) in
    let next = (touched n set m).node in
    let later = each_drops script stamp other rest in_sets.1 in_nodes next (touched_home script stamp.node set n m h ended.0) drops in
    let more = (each_touched (λ k. drop k stamp other) rest next).events in
    record {
      nodes = later.nodes;
      once = λ k once. elim once [
        | inl own ↦
            let after = later.never k own.1 in
            after.0 ∙ ap (λ (t : SetState). total t.held k.client k.mode) (ap (put n.set set m.state) (sym own.0) ∙ put-same n.set set m.state)
            ∙ ended.1.own k.client k.mode
            ∙ ap (λ (c : ℕ). fold (count_after script (holding k.client set k.mode)) c m.events) (total_dropped (n.set set).held other k.client k.mode)
            ∙ ap (λ (s : ℕ). fold (count_after script (holding k.client s k.mode)) (if k.client == other then 0 else total (n.set s).held k.client k.mode) m.events) own.0
            ∙ sym (after.1 (fold (count_after script k) (if k.client == other then 0 else held_at n k) m.events))
            ∙ sym (fold-append (count_after script k) (if k.client == other then 0 else held_at n k) m.events more)
        | inr further ↦
            let d : k.set ≢ set = λ e. further.0 (sym e) in
            later.once k further.1
            ∙ ap (λ (c : ℕ). fold (count_after script k) (if k.client == other then 0 else c) more) (ap (λ (t : SetState). total t.held k.client k.mode) (put-other n.set set m.state k.set d))
            ∙ ap (λ (c : ℕ). fold (count_after script k) c more) (sym (ended.1.aside k (if k.client == other then 0 else held_at n k) (inl d)))
            ∙ sym (fold-append (count_after script k) (if k.client == other then 0 else held_at n k) m.events more)
      ];
      never = λ k none.
          let d : k.set ≢ set = λ e. none.0 (sym e) in
          let after = later.never k none.1 in (
            after.0 ∙ ap (λ (t : SetState). total t.held k.client k.mode) (put-other n.set set m.state k.set d),
            λ c. fold-append (count_after script k) c m.events more ∙ ap (λ (x : ℕ). fold (count_after script k) x more) (ended.1.aside k c (inl d)) ∙ after.1 c,
          );
      aside = λ k c away. fold-append (count_after script k) c m.events more ∙ ap (λ (x : ℕ). fold (count_after script k) x more) (ended.1.aside k c (inr away)) ∙ later.aside k c away;
    }

once_contains : (s : ℕ) (sets : List ℕ) → IsOnce s sets → Contains sets s
once_contains s [] once = absurd once
once_contains s (set ∷ rest) (inl own) = (0, omega arith, own.0)
once_contains s (set ∷ rest) (inr later) = let found = once_contains s rest later.1 in (suc found.0, omega (arith, found.1), found.2)

aside_not : (s : ℕ) (sets : List ℕ) → AllByRecursion (λ x. x ≢ s) sets → Contains sets s → ⊥
aside_not s [] h c = omega (arith, c.1)
aside_not s (set ∷ rest) h (zero, within, e) = h.0 e
aside_not s (set ∷ rest) h (suc i, within, e) = aside_not s rest h.1 (i, omega (arith, within), e)

got : {X : Type 0} (xs : List X) (k : ℕ) (d : X) → k < length xs → slice_get xs k ≡ Some (slice_index_or xs k d)
got [] k d within = absurd (omega (arith, within))
got (x ∷ rest) zero d within = refl
got (x ∷ rest) (suc k) d within = got rest k d (omega (arith, within))

no_set : SetData → SetData
no_set d = d

-- a set of the family is one of its sets
related_once : (script : ScriptData) (a s : ℕ) (d : SetData) → a < length script.sets → IsOnce a (related script s) → is_related script a s ≡ true
related_once script a s d below once =
    let found = places-which (λ i (set : SetData). set.family == family script s) 0 script.sets d a (once_contains a (related script s) once) in
    ap (λ (f : ℕ). f == family script s) (ap (family_of_set) (got script.sets a d below) ∙ ap (λ (i : ℕ). (slice_index_or script.sets i d).family) (omega (arith, found.1))) ∙ found.3

pub related_aside : (script : ScriptData) (a s : ℕ) (d : SetData) → a < length script.sets → AllByRecursion (λ x. x ≢ a) (related script s) → is_related script a s ≡ false
related_aside script a s d below aside = by_test (is_related script a s) refl
  where
    by_test : (b : Bool) → is_related script a s ≡ b → is_related script a s ≡ false
    by_test false e = e
    by_test true e = absurd (aside_not a (related script s) aside
        (subst (Contains (related script s)) (omega arith) (places-at (λ i (set : SetData). set.family == family script s) 0 script.sets d a below
        (ap (λ (f : ℕ). f == family script s) (sym (ap (family_of_set) (got script.sets a d below))) ∙ e))))

pub some_set : (sets : List SetData) (a : ℕ) → a < length sets → SetData
some_set [] a below = absurd (omega (arith, below))
some_set (set ∷ rest) a below = set

drops_follow : (script : ScriptData) (stamp : Stamp) (client other s : ℕ) (n : NodeState) (waiting : Bool) → s < length script.sets → stamp.node < script.nodes
    → home script other ≡ stamp.node → AtHome script stamp.node n → ((set : ℕ) (t : SetState) → IsStateAtHome script stamp.node t → IsStateAtHome script stamp.node (dropped other t))
    → NodeFollows script stamp.node n (drop_all waiting stamp client other s (related script s) n)
drops_follow script stamp client other s n true in_sets in_nodes own h drops =
    let each = each_finishes script stamp (related script s) (related_below script s) in_nodes n h in
    record { nodes = each.nodes; own = each.own; aside = each.aside; beyond = each.beyond }
drops_follow script stamp client other s n false in_sets in_nodes own h drops = record {
  nodes = each.nodes;
  own = λ k mine below. by_once k below (once_or_aside script k.set (Some (DropAll other s)));
  aside = λ k c away.
      ap (λ (x : ℕ). fold (count_after script k) x events) (kept k c (λ e. away (ap (home script) e ∙ own))) ∙ each.aside k c away;
  beyond = λ k above.
      ap (λ (x : ℕ). fold (count_after script k) x events) (zero_kept (is_dropped script other s k))
      ∙ (each.never k (not_among k.set (related script s) (related_below script s) above)).1 0;
}
  where
    each : NodeDrops script stamp.node other (related script s) n (each_touched (λ k. drop k stamp other) (related script s) n)
    each = each_drops script stamp other (related script s) (related_below script s) in_nodes n h drops

    events : List Event
    events = (each_touched (λ k. drop k stamp other) (related script s) n).events

    zero_kept : (b : Bool) → ◌≡◌ {A = ℕ} (if b then 0 else 0) 0
    zero_kept true = refl
    zero_kept false = refl

    kept : (k : Holding) (c : ℕ) → k.client ≢ other → (if is_dropped script other s k then 0 else c) ≡ c
    kept k c d = ap (λ (b : Bool). if b && is_related script k.set s then 0 else c) (ne_eqb k.client other d)

    not_among : (a : ℕ) (sets : List ℕ) → AllByRecursion (λ set. set < length script.sets) sets → length script.sets ≤ a → AllByRecursion (λ x. x ≢ a) sets
    not_among a [] below above = tt
    not_among a (set ∷ rest) below above = (λ e. omega (arith, e, above, below.0), not_among a rest below.1 above)

    by_once : (k : Holding) → k.set < length script.sets → IsOnce k.set (related script s) ⊎ AllByRecursion (λ x. x ≢ k.set) (related script s)
        → held_at (each_touched (λ i. drop i stamp other) (related script s) n).node k ≡ fold (count_after script k) (if is_dropped script other s k then 0 else held_at n k) events
    by_once k below (inl once) = each.once k once
        ∙ ap (λ (b : Bool). fold (count_after script k) (if b then 0 else held_at n k) events)
        (by_bool (k.client == other) (is_related script k.set s) (related_once script k.set s (some_set script.sets k.set below) below once))
      where
        by_bool : (a b : Bool) → b ≡ true → a ≡ (a && b)
        by_bool true b e = sym e
        by_bool false b e = refl
    by_once k below (inr aside) =
        let none = each.never k aside in
        none.0 ∙ sym (none.1 (held_at n k))
        ∙ ap (λ (b : Bool). fold (count_after script k) (if b then 0 else held_at n k) events) (sym (by_bool (k.client == other) (is_related script k.set s) (related_aside script k.set s (some_set script.sets k.set below) below aside)))
      where
        by_bool : (a b : Bool) → b ≡ false → (a && b) ≡ false
        by_bool true b e = e
        by_bool false b e = refl

dropped_home : (script : ScriptData) (q other set : ℕ) (t : SetState) → IsStateAtHome script q t → IsStateAtHome script q (dropped other t)
dropped_home script q other set t h = record {
  rows = All-filter (λ row. not (is_of other row)) (IsRowAtHome script q) t.held h.rows;
  pending = h.pending;
  parked = h.parked;
  queue = h.queue;
}

obey_follows : (script : ScriptData) (stamp : Stamp) (client : ℕ) (command : Command) (n : NodeState) → client < length script.clients → home script client ≡ stamp.node → stamp.node < script.nodes
    → HasTargetsAt script client command → AtHome script stamp.node n → NodeFollows script stamp.node n (obey script stamp client (Some command) n)
obey_follows script stamp client (Lock s mode) n known own in_nodes targets h =
    touched_follows script stamp.node s n (lock s stamp client mode (n.set s)) targets h ((command_rules s stamp client _ (line_acts script s stamp client targets known own in_nodes)).locks mode (n.set s))
obey_follows script stamp client (Try s mode) n known own in_nodes targets h =
    touched_follows script stamp.node s n (try s stamp client mode (n.set s)) targets h ((command_rules s stamp client _ (line_acts script s stamp client targets known own in_nodes)).tries mode (n.set s))
obey_follows script stamp client (Unlock s mode) n known own in_nodes targets h =
    touched_follows script stamp.node s n (unlock s stamp client mode (n.set s)) targets h ((command_rules s stamp client _ (line_acts script s stamp client targets known own in_nodes)).unlocks mode (n.set s))
obey_follows script stamp client (Change s gives_up mode) n known own in_nodes targets h =
    touched_follows script stamp.node s n (change s stamp client gives_up mode (n.set s)) targets h ((command_rules s stamp client _ (line_acts script s stamp client targets known own in_nodes)).changes gives_up mode (n.set s))
obey_follows script stamp client (Withdraw other s) n known own in_nodes targets h =
    touched_follows script stamp.node s n (withdraw s stamp client other (n.set s)) targets.0 h (withdraw_lines script s stamp client other targets.0 in_nodes (n.set s))
obey_follows script stamp client (DropAll other s) n known own in_nodes targets h =
    drops_follow script stamp client other s n (node_waits script n other) targets.0 in_nodes (targets.2 ∙ own) h (dropped_home script stamp.node other)

act_follows : (script : ScriptData) (q client : ℕ) (n : NodeState) → IsWhole script → client < length script.clients → home script client ≡ q → q < script.nodes → AtHome script q n
    → NodeFollows script q n (node_act script q client n)
act_follows script q client n whole known own in_nodes h = by_command (next_command script n client) refl
  where
    stamp : Stamp
    stamp = act_stamp q n

    begins : NodeState
    begins = one_made client (at_clock (n.clock + 1) n)

    by_command : (command : Option Command) → next_command script n client ≡ command → NodeFollows script q n (obey script stamp client command begins)
    by_command None e = record { nodes = h; own = λ k mine below. refl; aside = λ k c away. refl; beyond = λ k above. refl }
    by_command (Some command) e =
        let made = obey_follows script stamp client command begins known own in_nodes (next_targets script n client command whole e) h in
        record { nodes = made.nodes; own = made.own; aside = made.aside; beyond = made.beyond }

letter_follows : (script : ScriptData) (q : ℕ) (letter : Letter) (n : NodeState) → letter.set < length script.sets → IsBodyAtHome script q letter.body → q < script.nodes → AtHome script q n
    → NodeFollows script q n (node_take q letter n)
letter_follows script q letter n in_sets body in_nodes h =
    let stamp = take_stamp q n letter in
    let made = touched_follows script q letter.set (at_clock stamp.clock n) (take_letter stamp letter (n.set letter.set)) in_sets h (take_lines script stamp letter in_sets body in_nodes (n.set letter.set)) in
    record { nodes = made.nodes; own = made.own; aside = made.aside; beyond = made.beyond }

pub step_follows : (script : ScriptData) (w : World) (q : ℕ) (step : Step) → IsWhole script → Homes script w → IsTrue (is_enabled script w q step) → NodeFollows script q (w.node q) (node_move script w q step)
step_follows script w q (Act client) whole homes enabled =
    let own = maker script w q client enabled in
    act_follows script q client (w.node q) whole own.known own.own (subst (λ (x : ℕ). x < script.nodes) own.own (whole.homes client own.known)) (homes.states q)
step_follows script w q (Take p) whole homes enabled =
    let is_there = has_mail_parts script w p q enabled in
    by_letters (w.mail p q) refl is_there.letter is_there.receiver
  where
    by_letters : (letters : List Letter) → w.mail p q ≡ letters → is_some_letter letters ≡ true → q < script.nodes → NodeFollows script q (w.node q) (take_front q (w.node q) (w.mail p q))
    by_letters [] e none hq = cc
    by_letters (letter ∷ rest) e there hq =
        let at_home = homes.letters p q letter (subst (λ (l : List Letter). Contains l letter) (sym e) (0, omega arith, refl)) in
        subst (λ (l : List Letter). NodeFollows script q (w.node q) (take_front q (w.node q) l)) (sym e) (letter_follows script q letter (w.node q) at_home.set at_home.body hq (homes.states q))
