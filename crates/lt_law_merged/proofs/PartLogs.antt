-- The plays of all nodes are a run that ends as they do.
use Rattle.std.proofs.Common.{◌≡◌, ℕ, List, ◌++◌, length, drop, Option, Some, refl, ap, ◌∙◌, ◌<◌, inl, inr, Bool, false, subst, sym, arith, take, ◌≢◌, zero, suc, ◌+◌, ◌*◌, ◌≤◌, [], ◌∷◌, None, slice_get, ◌&&◌, ◌||◌, ◌==◌, nat_lt, IsTrue, Contains, ◌⊎◌, map, filter, drop_at, take_all, append-nil, eqb-true, ltb-true, eq-eqb}
use Rattle.std.proofs.lemmas.Bool.{or_cases, or_left, or_right, and_parts, false_from_ne_true, both_ways, cases_eq}
use Rattle.std.proofs.lemmas.Option.{slice_get_within}
use Rattle.std.specs.List.{AllByRecursion}
use Rattle.std.proofs.lemmas.List.Elements.{filter-append}
use Rattle.lt_modes.specs.Script.{ScriptData}
use Rattle.lt_modes.specs.State.{Letter}
use Rattle.lt_modes.specs.declared.moves.Step.{Step}
use Rattle.lt_modes.specs.declared.moves.Step.TheVariants.{Act, Take}
use Rattle.lt_modes.specs.Fits.{fits, numbers_of}
use Rattle.lt_lists.specs.Below.{any_below, sum_below}
use Rattle.lt_lists.proofs.Searches.{any_below_at, any_below_same}
use Rattle.lt_lists.proofs.AllLemmas.{all_weaker}
use Rattle.lt_spec.specs.World.{World, is_runnable, has_mail, is_enabled, is_at_rest, can_move, Logged, world_after, start, is_of_node}
use Rattle.lt_spec.specs.NodeMove.{home, related, locks_in_sets, NodeState}
use Rattle.lt_spec.specs.Limits.{node_within, leaves_asks}
use Rattle.lt_spec.specs.Script.{IsScript}
use Rattle.lt_spec.specs.declared.limits.TheConstants.{MAX_COMMANDS_OF_SERVICE}
use Rattle.lt_spec.specs.Plays.{can_act}
use Rattle.lt_merge.specs.Merging.{RunData, AreRising, AreLogs, by_node, all_entries}
use Rattle.lt_merge.proofs.MergedLists.{all_pass}
use Rattle.lt_merge.proofs.Placing.{join_empty}
use Rattle.lt_law_enabled.specs.OrderLaws.{RestsWithoutMove}
use Rattle.lt_law_invariant.proofs.SoundStates.{letters_fit_in_runs}
use Rattle.lt_law_invariant.proofs.FewAsks.{whole, nodes_within, drops_within, asks_placed}
use Rattle.lt_law_plays.specs.Merged.{merged, Part, part_or, part_at, logs_of, Joined}
use Rattle.lt_law_plays.proofs.PlayLemmas.{joined_are_plays, plays_rise}
use Rattle.lt_law_plays.proofs.MergedLogs.{merged_exists, merged_has_all, IsOwn, none_of_other, head_or}
use Rattle.lt_law_plays.proofs.MergedRun.{merged_is_run, merged_ends}
use Rattle.lt_law_plays.proofs.LowClocks.{same_runnable, clocks_are_counted}
use Rattle.lt_law_ends.proofs.Reach.{any_below_which}
use Rattle.lt_law_merged.specs.JoinedRun.{JoinedRuns, JoinedMerges, LogsOfParts}
use Rattle.lt_law_merged.specs.States.{CanMoveIsSeen, CanMoveIsEnabled, RestIsNoMove, StatesWithin, DropsWithin, AsksHavePlace, FewMoves, ClocksBelow, LettersLeftFit}

-- the part at its place
pub part_is : (script : ScriptData) (parts : List Part) (x : ℕ) (part : Part) → slice_get parts x ≡ Some part → part_at script parts x ≡ part
part_is script parts x part e = ap (λ (o : Option Part). part_or script x o) e

-- what is left of the letters
pub rest_is : (script : ScriptData) (parts : List Part) (p q : ℕ) (a b : Part) (rest : List Letter) → slice_get parts p ≡ Some a → slice_get parts q ≡ Some b
    → a.sent q ≡ b.used p ++ rest → (logs_of script parts).rest p q ≡ rest
rest_is script parts p q a b rest is_a is_b e =
    ap (λ (part : Part). drop (length (part.used p)) ((part_at script parts p).sent q)) (part_is script parts q b is_b)
    ∙ (ap (λ (part : Part). drop (length (b.used p)) (part.sent q)) (part_is script parts p a is_a)
    ∙ (ap (λ (letters : List Letter). drop (length (b.used p)) letters) e ∙ drop_at (b.used p) rest (length (b.used p)) refl))

pub joined_runs : JoinedRuns
joined_runs script parts run joined is_merged =
    let plays = joined_are_plays script parts joined in
    let ends = merged_ends script (logs_of script parts) run plays is_merged in
    record {
      is_merged = is_merged;
      is_run = merged_is_run script (logs_of script parts) run plays is_merged;
      count = merged_has_all script (logs_of script parts) run plays is_merged;
      world = ends;
      node = λ q part e. ap (λ (w : World). w.node q) ends ∙ ap (λ (p : Part). p.last) (part_is script parts q part e);
      mail = λ p q a b rest is_a is_b e. ap (λ (w : World). w.mail p q) ends ∙ rest_is script parts p q a b rest is_a is_b e;
    }

pub joined_merges : JoinedMerges
joined_merges script parts joined =
    joined_runs script parts (merged script.nodes (logs_of script parts).log) joined
    (merged_exists script (logs_of script parts) (joined_are_plays script parts joined))

-- Which nodes can make a move.

-- an act is enabled where the node alone can make it
pub act_is_seen : (script : ScriptData) (w : World) (q client : ℕ) → is_enabled script w q (Act client) ≡ can_act script q (w.node q) client
act_is_seen script w q client = ap (λ (t : Bool). nat_lt client (length script.clients) && t) (same_runnable script w q client)

pub can_move_is_seen : CanMoveIsSeen
can_move_is_seen script w q =
    ap (λ (b : Bool). any_below script.nodes (λ p. has_mail script w p q) || b)
    (any_below_same (length script.clients) (λ client. is_enabled script w q (Act client)) (can_act script q (w.node q)) (λ k h. act_is_seen script w q k))

pub can_move_is_enabled : CanMoveIsEnabled
can_move_is_enabled script w q = (enabled, moves)
  where
    takes : ℕ → Bool
    takes p = is_enabled script w q (Take p)

    acts : ℕ → Bool
    acts client = is_enabled script w q (Act client)

    enabled : IsTrue (can_move script w q) → (step : Step) × IsTrue (is_enabled script w q step)
    enabled e = elim (or_cases (any_below script.nodes takes) (any_below (length script.clients) acts) e) [
      | inl some ↦ let found = any_below_which script.nodes takes some in (Take found.0, found.2)
      | inr some ↦ let found = any_below_which (length script.clients) acts some in (Act found.0, found.2)
    ]

    moves : (step : Step) × IsTrue (is_enabled script w q step) → IsTrue (can_move script w q)
    moves (Act client, e) =
        or_right (any_below script.nodes takes) (any_below (length script.clients) acts)
        (any_below_at (length script.clients) client acts (ltb-true client (length script.clients) (and_parts _ _ e).0) e)
    moves (Take p, e) =
        or_left (any_below script.nodes takes) (any_below (length script.clients) acts)
        (any_below_at script.nodes p takes (ltb-true p script.nodes (and_parts _ _ e).0) e)

-- an enabled move is one of a node of the script
of_script : (script : ScriptData) (w : World) (q : ℕ) (step : Step) → IsScript script → IsTrue (is_enabled script w q step) → q < script.nodes
of_script script w q (Act client) is_script enabled =
    let known = and_parts (nat_lt client (length script.clients)) (home script client == q && is_runnable script w client) enabled in
    let at_home = and_parts (home script client == q) (is_runnable script w client) known.1 in
    subst (λ (x : ℕ). x < script.nodes) (eqb-true (home script client) q at_home.0) (is_script.homes client (ltb-true client (length script.clients) known.0))
of_script script w q (Take p) is_script enabled = ltb-true q script.nodes (and_parts (nat_lt q script.nodes) _ (and_parts (nat_lt p script.nodes) _ enabled).1).0

pub rest_is_no_move : RestsWithoutMove → RestIsNoMove
rest_is_no_move rests script w is_script = (none, rest)
  where
    none : IsTrue (is_at_rest script w) → (q : ℕ) → q < script.nodes → can_move script w q ≡ false
    none e q inside = false_from_ne_true (can_move script w q) (λ moves.
        let found = (can_move_is_enabled script w q).0 moves in
        both_ways (is_enabled script w q found.0) ((rests script w).0 e q found.0) found.1)

    rest : ((q : ℕ) → q < script.nodes → can_move script w q ≡ false) → IsTrue (is_at_rest script w)
    rest idle = (rests script w).1 (λ q step. false_from_ne_true (is_enabled script w q step) (λ enabled.
        both_ways (can_move script w q) (idle q (of_script script w q step is_script enabled)) ((can_move_is_enabled script w q).1 (step, enabled))))

-- What nodes keep after joined plays, and which letters are left.

-- a part is of a node of the script
below : (script : ScriptData) (parts : List Part) → Joined script parts → (q : ℕ) (part : Part) → slice_get parts q ≡ Some part → q < script.nodes
below script parts joined q part is_part = omega (arith, slice_get_within parts q part is_part, joined.count)

pub states_within : StatesWithin
states_within script parts is_script joined q part is_part =
    let run = joined_merges script parts joined in
    subst (λ (n : NodeState). IsTrue (node_within script n)) (run.node q part is_part)
    (nodes_within script _ is_script run.is_run q (below script parts joined q part is_part))

pub drops_are_within : DropsWithin
drops_are_within script parts is_script joined q part is_part client s =
    let run = joined_merges script parts joined in
    subst (λ (n : NodeState). locks_in_sets n client (related script s) ≤ MAX_COMMANDS_OF_SERVICE) (run.node q part is_part)
    (drops_within script _ is_script run.is_run q (below script parts joined q part is_part) client s)

pub asks_have_place : AsksHavePlace
asks_have_place script parts is_script joined q client part is_part can =
    let run = joined_merges script parts joined in
    let w = world_after script (merged script.nodes (logs_of script parts).log) in
    let enabled : IsTrue (is_enabled script w q (Act client)) =
    act_is_seen script w q client ∙ subst (λ (n : NodeState). IsTrue (can_act script q n client)) (sym (run.node q part is_part)) can in
    let known = and_parts _ _ enabled in
    let at_home = and_parts _ (is_runnable script w client) known.1 in
    let place = asks_placed script _ is_script run.is_run client (ltb-true client _ known.0) at_home.1 in
    subst (λ (n : NodeState). IsTrue (leaves_asks script n client)) (ap w.node (eqb-true (home script client) q at_home.0) ∙ run.node q part is_part) place

-- a sum of so many small terms
few_terms : (n : ℕ) (f : ℕ → ℕ) → ((k : ℕ) → f k ≤ 36028797018963968) → sum_below n f ≤ n * 36028797018963968
few_terms zero f each = omega arith
few_terms (suc n) f each = omega (arith, each n, few_terms n f each)

-- all nodes together made fewer moves than clocks have numbers
few_in_all : (script : ScriptData) (parts : List Part) → script.nodes ≤ 64 → FewMoves parts
    → sum_below script.nodes (λ x. length ((logs_of script parts).log x)) ≤ 2305843009213693952
few_in_all script parts nodes few =
    omega (arith, nodes, few_terms script.nodes (λ x. length ((logs_of script parts).log x)) (λ x. of_part x (slice_get parts x) refl))
  where
    of_part : (x : ℕ) (o : Option Part) → slice_get parts x ≡ o → length (part_or script x o).log ≤ 36028797018963968
    of_part x None e = omega arith
    of_part x (Some part) e = few x part e

pub clocks_below : ClocksBelow
clocks_below script parts is_script joined few q part is_part =
    omega (
      arith,
      ap (λ (p : Part). p.last.clock) (part_is script parts q part is_part),
      clocks_are_counted script (logs_of script parts) (joined_are_plays script parts joined) q,
      few_in_all script parts is_script.few_nodes few,
    )

pub letters_left_fit : LettersLeftFit
letters_left_fit script parts is_script joined few p q a b rest letter is_a is_b e among =
    let run = merged script.nodes (logs_of script parts).log in
    let is_joined = joined_merges script parts joined in
    let all : take (length run) run ≡ run = take_all (length run) run (omega arith) in
    let few_moves = few_in_all script parts is_script.few_nodes few in
    let here = subst (λ (letters : List Letter). Contains letters letter)
    (sym (ap (λ (r : List Logged). (world_after script r).mail p q) all ∙ is_joined.mail p q a b rest is_a is_b e)) among in
    subst (λ (n : NodeState). IsTrue (fits (numbers_of script) q n.clock (n.set letter.set) letter))
    (ap (λ (r : List Logged). (world_after script r).node q) all ∙ is_joined.node q b is_b)
    (letters_fit_in_runs script run (whole script is_script) is_joined.is_run (length run) p q letter
    (omega (arith, is_joined.count, few_moves)) (below script parts joined p a is_a) (below script parts joined q b is_b) here)

-- The logs of joined plays can be merged, and are then their run.

-- the log rises, and is of the node
record IsLogOf (x : ℕ) (log : List Logged) : Type 0 where
  rising : AreRising log
  own : AllByRecursion (IsOwn x) log

-- logs of the nodes from this one on, in their order
abbrev AreLogsFrom : ℕ → List RunData → Type 0
AreLogsFrom first [] = Unit {0}
AreLogsFrom first (log ∷ logs) = IsLogOf first log.entries × AreLogsFrom (suc first) logs

-- a node before them has no entries
none_before : (first : ℕ) (logs : List RunData) → AreLogsFrom first logs → (x : ℕ) → x < first → by_node logs x ≡ []
none_before first [] h x before = refl
none_before first (log ∷ logs) h x before =
    filter-append (is_of_node x) log.entries (all_entries logs)
    ∙ join_empty (filter (is_of_node x) log.entries) (by_node logs x) (none_of_other first x log.entries (λ e. omega (arith, before, e)) h.0.own)
    (none_before (suc first) logs h.1 x (omega (arith, before)))

abbrev entries_or : Option RunData → List Logged
entries_or (Some log) = log.entries
entries_or None = []

-- each other one has those of its log
at_place : (first : ℕ) (logs : List RunData) → AreLogsFrom first logs → (x i : ℕ) → x ≡ first + i → by_node logs x ≡ entries_or (slice_get logs i)
at_place first [] h x zero e = refl
at_place first [] h x (suc i) e = refl
at_place first (log ∷ logs) h x zero e =
    filter-append (is_of_node x) log.entries (all_entries logs)
    ∙ (ap (λ (l : List Logged). l ++ by_node logs x) (all_pass (is_of_node x) log.entries
    (all_weaker (IsOwn first) _ (λ (entry : Logged) own. eq-eqb entry.made.stamp.node x (omega (arith, own, e))) log.entries h.0.own))
    ∙ (ap (λ (l : List Logged). log.entries ++ l) (none_before (suc first) logs h.1 x (omega (arith, e))) ∙ append-nil log.entries))
at_place first (log ∷ logs) h x (suc i) e =
    filter-append (is_of_node x) log.entries (all_entries logs)
    ∙ (ap (λ (l : List Logged). l ++ by_node logs x) (none_of_other first x log.entries (λ same. omega (arith, same, e)) h.0.own)
    ∙ at_place (suc first) logs h.1 x i (omega (arith, e)))

are_logs : (first : ℕ) (logs : List RunData) → AreLogsFrom first logs → AreLogs logs
are_logs first [] h = tt
are_logs first (log ∷ logs) h = (h.0.rising, (λ x. apart x (cases_eq x first)), are_logs (suc first) logs h.1)
  where
    apart : (x : ℕ) → (x ≡ first) ⊎ (x ≢ first) → (filter (is_of_node x) log.entries ≡ []) ⊎ (by_node logs x ≡ [])
    apart x (inl e) = inr (none_before (suc first) logs h.1 x (omega (arith, e)))
    apart x (inr d) = inl (none_of_other first x log.entries d h.0.own)

-- the logs of these parts, where each part's log is one of its node
logs_from : (first : ℕ) (logs : List RunData) (parts : List Part) → map (λ (log : RunData). log.entries) logs ≡ map (λ (part : Part). part.log) parts
    → ((i : ℕ) (part : Part) → slice_get parts i ≡ Some part → (x : ℕ) → x ≡ first + i → IsLogOf x part.log) → AreLogsFrom first logs
logs_from first [] parts same each = tt
logs_from first (log ∷ logs) [] same each = absurd (omega (arith, ap length same))
logs_from first (log ∷ logs) (part ∷ parts) same each = (
  subst (IsLogOf first) (sym (ap (head_or []) same)) (each zero part refl first (omega arith)),
  logs_from (suc first) logs parts (ap (drop 1) same) (λ i other is_other x e. each (suc i) other is_other x (omega (arith, e))),
)

-- the same for each log by its place
log_at : (script : ScriptData) (logs : List RunData) (parts : List Part) → map (λ (log : RunData). log.entries) logs ≡ map (λ (part : Part). part.log) parts
    → (x i : ℕ) → entries_or (slice_get logs i) ≡ (part_or script x (slice_get parts i)).log
log_at script [] [] same x zero = refl
log_at script [] [] same x (suc i) = refl
log_at script [] (part ∷ parts) same x i = absurd (omega (arith, ap length same))
log_at script (log ∷ logs) [] same x i = absurd (omega (arith, ap length same))
log_at script (log ∷ logs) (part ∷ parts) same x zero = ap (head_or []) same
log_at script (log ∷ logs) (part ∷ parts) same x (suc i) = log_at script logs parts (ap (drop 1) same) x i

pub logs_of_parts : LogsOfParts
logs_of_parts script parts logs joined same =
    let from = logs_from zero logs parts same each in
    record {
      are_logs = are_logs zero logs from;
      runs = λ run merges. joined_runs script parts run joined (record {
        rising = merges.order.rising;
        parts = λ x. merges.order.parts x ∙ (at_place zero logs from x x (omega arith) ∙ log_at script logs parts same x x);
      });
    }
  where
    each : (i : ℕ) (part : Part) → slice_get parts i ≡ Some part → (x : ℕ) → x ≡ zero + i → IsLogOf x part.log
    each i part is_part x e =
        let rise = plays_rise script i part.log ((start script).node i) part.last part.used part.sent (joined.plays i part is_part) in
        record {
          rising = rise.0;
          own = all_weaker _ (IsOwn x) (λ (entry : Logged) in_log. omega (arith, in_log.0, e)) part.log rise.1;
        }
