-- What a command asks of the sets that it touches.
use Rattle.std.proofs.Common.{◌≡◌, ◌<◌, ◌≤◌, ◌+◌, ◌∙◌, ◌==◌, ◌&&◌, ℕ, Bool, true, false, not, nat_le, List, [], ◌∷◌, Option, Some, None, IsTrue, Contains, length, arith, refl, sym, ap, subst, slice_get, leb-true, if◌then◌else◌}
use Rattle.std.specs.List.{AllByRecursion, list_all}
use Rattle.std.proofs.lemmas.Bool.{and_from, and_parts, leb-false, le-leb, lt-leb, not-true, not-false}
use Rattle.std.proofs.lemmas.Option.{get_or_from_slice_get, slice_get_within}
use Rattle.std.proofs.lemmas.List.{drop_all}
use Rattle.std.proofs.lemmas.List.Elements.{Contains-get_or}
use Rattle.std.proofs.lemmas.List.Sums.{sum_by-cons}
use Rattle.std.proofs.lemmas.List.Filters.{sum_by-filter_both}
use Rattle.lt_modes.specs.declared.command.Command.{Command}
use Rattle.lt_modes.specs.declared.command.Command.TheVariants as commands
use Rattle.lt_modes.specs.Freezing.{places_from, cons_if}
use Rattle.lt_modes.specs.declared.parts.Row.{Row}
use Rattle.lt_modes.specs.Modes.{is_of, locks_of, locks_in}
use Rattle.lt_modes.specs.Script.{ScriptData, SetData, family_at}
use Rattle.lt_modes.specs.State.{Letter}
use Rattle.lt_lists.proofs.Members.{some_equal}
use Rattle.lt_lists.proofs.Searches.{any_below_none}
use Rattle.lt_spec.specs.Script.{IsScript, HasTargets}
use Rattle.lt_spec.specs.NodeMove.{NodeState, commands_of, next_command, family, related, locks_in_sets}
use Rattle.lt_spec.specs.Limits.{set_within, node_within, leaves_ask, leaves_asks}
use Rattle.lt_spec.specs.declared.limits.TheConstants.{MAX_COMMANDS_OF_SERVICE}
use Rattle.lt_node.specs.Touched.{touched_sets, touched_by, named_set, sets_within, sets_leave_asks, drops_few, leaves_room_to_obey, leaves_room_to_act, leaves_room_to_take, leaves_room_in, with_dropped}
use Rattle.lt_node.proofs.AdvanceLemmas.{targets_of}
use Rattle.lt_node.proofs.FamilyLemmas.{GoesOn, related_from, related_in, related_gap}

-- The sets that a command touches are sets of the script.

abbrev AreBelow : ℕ → List ℕ → Type 0
AreBelow top sets = AllByRecursion (λ s. s < top) sets

places_below : (test : ℕ → SetData → Bool) (top k : ℕ) (sets : List SetData) → k + length sets ≤ top → AreBelow top (places_from test k sets)
places_below test top k [] h = record {}
places_below test top k (x ∷ rest) h = by_test (test k x) (places_below test top (k + 1) rest (omega (arith, h)))
  where
    by_test : (b : Bool) → AreBelow top (places_from test (k + 1) rest) → AreBelow top (cons_if b k (places_from test (k + 1) rest))
    by_test true below = (omega (arith, h), below)
    by_test false below = below

touched_below : (script : ScriptData) (client : ℕ) (command : Command) → HasTargets script.sets script.clients client command → AreBelow (length script.sets) (touched_sets script command)
touched_below script client (commands.Lock s mode) inside = (inside, record {})
touched_below script client (commands.Try s mode) inside = (inside, record {})
touched_below script client (commands.Unlock s mode) inside = (inside, record {})
touched_below script client (commands.Change s gives_up mode) inside = (inside, record {})
touched_below script client (commands.Withdraw other s) targets = (targets.0, record {})
touched_below script client (commands.DropAll other s) targets =
    places_below (λ k (set : SetData). set.family == family script s) (length script.sets) 0 script.sets (omega arith)

-- the command at a place of a client's list
listed_below : (script : ScriptData) (client k : ℕ) (o : Option Command) → IsScript script → slice_get (commands_of script client) k ≡ o → AreBelow (length script.sets) (touched_by script o)
listed_below script client k None known at = record {}
listed_below script client k (Some command) known at =
    let listed = commands_of script client in
    touched_below script client command (targets_of script client command known
    (subst (Contains listed) (get_or_from_slice_get listed k command command at) (Contains-get_or listed k command (slice_get_within listed k command at))))

-- What leaves room for a move in all sets leaves room for a command.

all_true : (test : ℕ → Bool) (top : ℕ) (sets : List ℕ) → ((s : ℕ) → s < top → test s ≡ true) → AreBelow top sets → list_all test sets ≡ true
all_true test top [] each below = refl
all_true test top (s ∷ rest) each below = and_from (test s) (list_all test rest) (each s below.0) (all_true test top rest each below.1)

within_at : (script : ScriptData) (n : NodeState) → IsTrue (node_within script n) → (s : ℕ) → s < length script.sets → set_within n.clock (n.set s) ≡ true
within_at script n within s inside =
    not-false (set_within n.clock (n.set s)) (any_below_none (length script.sets) (λ k. not (set_within n.clock (n.set k))) (not-true _ within) s inside)

asks_at : (script : ScriptData) (n : NodeState) (client : ℕ) → IsTrue (leaves_asks script n client) → (s : ℕ) → s < length script.sets
    → leaves_ask client (n.set s) ≡ true
asks_at script n client asks s inside =
    not-false (leaves_ask client (n.set s)) (any_below_none (length script.sets) (λ k. not (leaves_ask client (n.set k))) (not-true _ asks) s inside)

abbrev FewLocks : ScriptData → NodeState → Type 0
FewLocks script n = (client s : ℕ) → locks_in_sets n client (related script s) ≤ MAX_COMMANDS_OF_SERVICE

few_dropped : (script : ScriptData) (n : NodeState) (o : Option Command) → FewLocks script n → drops_few script n o ≡ true
few_dropped script n None few = refl
few_dropped script n (Some (commands.Lock s mode)) few = refl
few_dropped script n (Some (commands.Try s mode)) few = refl
few_dropped script n (Some (commands.Unlock s mode)) few = refl
few_dropped script n (Some (commands.Change s gives_up mode)) few = refl
few_dropped script n (Some (commands.DropAll other s)) few = le-leb _ _ (few other s)
few_dropped script n (Some (commands.Withdraw other s)) few = refl

pub room_to_act : (script : ScriptData) (n : NodeState) (client : ℕ) → IsScript script → IsTrue (node_within script n) → IsTrue (leaves_asks script n client)
    → ((c s : ℕ) → locks_in_sets n c (related script s) ≤ MAX_COMMANDS_OF_SERVICE) → IsTrue (leaves_room_to_act script n client)
room_to_act script n client known within asks few =
    let command = next_command script n client in
    let below = listed_below script client (n.made client) command known refl in
    and_from (sets_within n (touched_by script command)) (sets_leave_asks n client (touched_by script command) && drops_few script n command)
    (all_true (λ s. set_within n.clock (n.set s)) (length script.sets) (touched_by script command) (within_at script n within) below)
    (and_from (sets_leave_asks n client (touched_by script command)) (drops_few script n command)
    (all_true (λ s. leaves_ask client (n.set s)) (length script.sets) (touched_by script command) (asks_at script n client asks) below)
    (few_dropped script n command few))

pub room_to_take : (script : ScriptData) (n : NodeState) (letter : Letter) → IsTrue (node_within script n) → letter.set < length script.sets → IsTrue (leaves_room_to_take n letter)
room_to_take script n letter within inside = within_at script n within letter.set inside

-- One set.

-- the locks that are counted with those of a set are few
pub few_held : (n : NodeState) (maker s client : ℕ) → leaves_room_in n maker s ≡ true → locks_of (n.set s).held client ≤ MAX_COMMANDS_OF_SERVICE
few_held n maker s client room =
    let within = (and_parts (set_within n.clock (n.set s)) (leaves_ask maker (n.set s)) room).0 in
    omega (arith, leb-true (locks_in (n.set s).held) MAX_COMMANDS_OF_SERVICE (and_parts (nat_le (locks_in (n.set s).held) MAX_COMMANDS_OF_SERVICE) _ within).0, sum_by-filter_both (is_of client) (λ (row : Row). not (is_of client row)) (λ row. refl) (λ (row : Row). row.count) (n.set s).held)

-- The sets of a family, one after the other.

-- those from place k on leave room for a drop where all do, and so many locks are counted in those before it
pub record IsCountedTo (script : ScriptData) (n : NodeState) (maker set client k locks : ℕ) : Type 0 where
  pub within : sets_within n (related_from script set k) ≡ sets_within n (related script set)
  pub asks : sets_leave_asks n maker (related_from script set k) ≡ sets_leave_asks n maker (related script set)
  pub all : locks + locks_in_sets n client (related_from script set k) ≡ locks_in_sets n client (related script set)
  pub few : locks ≤ MAX_COMMANDS_OF_SERVICE

pub counted_past : (script : ScriptData) (n : NodeState) (maker set client locks : ℕ) → GoesOn script.sets (family script set) (λ k. IsCountedTo script n maker set client k locks)
counted_past script n maker set client locks from to gap counted =
    let same = sym (related_gap script set from to gap) in
    record {
      within = ap (sets_within n) same ∙ counted.within;
      asks = ap (sets_leave_asks n maker) same ∙ counted.asks;
      all = ap (λ (l : List ℕ). locks + locks_in_sets n client l) same ∙ counted.all;
      few = counted.few;
    }

-- the set at place k is one of the family
counted_next : (script : ScriptData) (n : NodeState) (maker set client k locks : ℕ) → k < length script.sets → (family_at script.sets k == family script set) ≡ true → IsCountedTo script n maker set client k locks
    → ((set_within n.clock (n.set k) && sets_within n (related_from script set (k + 1))) ≡ sets_within n (related script set))
    × ((leaves_ask maker (n.set k) && sets_leave_asks n maker (related_from script set (k + 1))) ≡ sets_leave_asks n maker (related script set))
    × ((locks + locks_of (n.set k).held client) + locks_in_sets n client (related_from script set (k + 1)) ≡ locks_in_sets n client (related script set))
counted_next script n maker set client k locks inside mine counted =
    let first = sym (related_in script set k inside mine) in
    let rest = related_from script set (k + 1) in (
      ap (sets_within n) first ∙ counted.within,
      ap (sets_leave_asks n maker) first ∙ counted.asks,
      omega (arith, ap (λ (l : List ℕ). locks_in_sets n client l) first, counted.all, sum_by-cons (λ (s : ℕ). locks_of (n.set s).held client) k rest),
    )

when_some : (b : Bool) (x y : ℕ) → (if b then Some x else None) ≡ Some y → (b ≡ true) × (x ≡ y)
when_some true x y e = (refl, some_equal x y e)
when_some false x y e = cc

when_none : (b : Bool) (x : ℕ) → (if b then Some x else None) ≡ None → b ≡ false
when_none true x e = cc
when_none false x e = refl

pub counted_more : (script : ScriptData) (n : NodeState) (maker set client k locks more : ℕ) → IsCountedTo script n maker set client k locks
    → k < length script.sets → (family_at script.sets k == family script set) ≡ true → with_dropped n maker k client locks ≡ Some more → IsCountedTo script n maker set client (k + 1) more
counted_more script n maker set client k locks more counted inside mine some =
    let next = counted_next script n maker set client k locks inside mine counted in
    let got = when_some (leaves_room_in n maker k && nat_le (locks + locks_of (n.set k).held client) MAX_COMMANDS_OF_SERVICE) (locks + locks_of (n.set k).held client) more some in
    let room = and_parts (leaves_room_in n maker k) (nat_le (locks + locks_of (n.set k).held client) MAX_COMMANDS_OF_SERVICE) got.0 in
    let parts = and_parts (set_within n.clock (n.set k)) (leaves_ask maker (n.set k)) room.0 in
    let rest = related_from script set (k + 1) in
    record {
      within = sym (ap (λ (b : Bool). b && sets_within n rest) parts.0) ∙ next.0;
      asks = sym (ap (λ (b : Bool). b && sets_leave_asks n maker rest) parts.1) ∙ next.1;
      all = omega (arith, next.2, got.1);
      few = omega (arith, got.1, leb-true (locks + locks_of (n.set k).held client) MAX_COMMANDS_OF_SERVICE room.1);
    }

-- where a set leaves no room, or too many locks are counted, there is none
none_left : (within ask few later others all : Bool) → ((within && ask) && few) ≡ false → (few ≡ false → all ≡ false) → ((within && later) && ((ask && others) && all)) ≡ false
none_left false ask few later others all none many = refl
none_left true false few false others all none many = refl
none_left true false few true others all none many = refl
none_left true true few later others all none many = rw (many none) (no_room later others)
  where
    no_room : (a b : Bool) → (a && (b && false)) ≡ false
    no_room false b = refl
    no_room true false = refl
    no_room true true = refl

pub counted_out_of_room : (script : ScriptData) (n : NodeState) (maker set client k locks : ℕ) → IsCountedTo script n maker set client k locks
    → k < length script.sets → (family_at script.sets k == family script set) ≡ true → with_dropped n maker k client locks ≡ None
    → leaves_room_to_obey script n maker (Some (commands.DropAll client set)) ≡ false
counted_out_of_room script n maker set client k locks counted inside mine none =
    let next = counted_next script n maker set client k locks inside mine counted in
    let sum = locks + locks_of (n.set k).held client in
    let all = locks_in_sets n client (related script set) in
    let rest = related_from script set (k + 1) in
    let out = when_none (leaves_room_in n maker k && nat_le sum MAX_COMMANDS_OF_SERVICE) sum none in
    let many : nat_le sum MAX_COMMANDS_OF_SERVICE ≡ false → nat_le all MAX_COMMANDS_OF_SERVICE ≡ false = λ e.
    lt-leb all MAX_COMMANDS_OF_SERVICE (omega (arith, leb-false sum MAX_COMMANDS_OF_SERVICE e, next.2)) in
    ap (λ (b : Bool). b && (sets_leave_asks n maker (related script set) && nat_le all MAX_COMMANDS_OF_SERVICE)) (sym next.0)
    ∙ ap (λ (b : Bool). (set_within n.clock (n.set k) && sets_within n rest) && (b && nat_le all MAX_COMMANDS_OF_SERVICE)) (sym next.1)
    ∙ none_left (set_within n.clock (n.set k)) (leaves_ask maker (n.set k)) (nat_le sum MAX_COMMANDS_OF_SERVICE) (sets_within n rest) (sets_leave_asks n maker rest) (nat_le all MAX_COMMANDS_OF_SERVICE) out many

pub related_none : (script : ScriptData) (set k : ℕ) → length script.sets ≤ k → related_from script set k ≡ []
related_none script set k past = ap (λ (l : List SetData). places_from (λ j (x : SetData). x.family == family script set) k l) (drop_all k script.sets past)

-- where all sets were counted, there is room
pub counted_all : (script : ScriptData) (n : NodeState) (maker set client locks : ℕ) → IsCountedTo script n maker set client (length script.sets) locks
    → leaves_room_to_obey script n maker (Some (commands.DropAll client set)) ≡ true
counted_all script n maker set client locks counted =
    let none = related_none script set (length script.sets) (omega arith) in
    let within : sets_within n (related script set) ≡ true = sym counted.within ∙ ap (sets_within n) none in
    let asks : sets_leave_asks n maker (related script set) ≡ true = sym counted.asks ∙ ap (sets_leave_asks n maker) none in
    let all : locks_in_sets n client (related script set) ≤ MAX_COMMANDS_OF_SERVICE = omega (arith, counted.few, counted.all, ap (λ (l : List ℕ). locks_in_sets n client l) none) in
    let few : nat_le (locks_in_sets n client (related script set)) MAX_COMMANDS_OF_SERVICE ≡ true = le-leb (locks_in_sets n client (related script set)) MAX_COMMANDS_OF_SERVICE all in
    ap (λ (b : Bool). b && (sets_leave_asks n maker (related script set) && nat_le (locks_in_sets n client (related script set)) MAX_COMMANDS_OF_SERVICE)) within
    ∙ ap (λ (b : Bool). b && nat_le (locks_in_sets n client (related script set)) MAX_COMMANDS_OF_SERVICE) asks ∙ few

-- the set that a command names is one of the script
pub named_inside : (script : ScriptData) (client : ℕ) (command : Command) → HasTargets script.sets script.clients client command → named_set command < length script.sets
named_inside script client (commands.Lock s mode) inside = inside
named_inside script client (commands.Try s mode) inside = inside
named_inside script client (commands.Unlock s mode) inside = inside
named_inside script client (commands.Change s gives_up mode) inside = inside
named_inside script client (commands.DropAll other s) targets = targets.0
named_inside script client (commands.Withdraw other s) targets = targets.0

-- what a test says of all sets it says of each
pub all_true_each : (test : ℕ → Bool) (sets : List ℕ) → list_all test sets ≡ true → AllByRecursion (λ s. test s ≡ true) sets
all_true_each test [] all = record {}
all_true_each test (s ∷ rest) all = let parts = and_parts (test s) (list_all test rest) all in (parts.0, all_true_each test rest parts.1)
