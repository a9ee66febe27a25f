-- No more asks stand at a node than a script has clients, and fewer are unanswered than a node may have clients where one of them can act.
use Rattle.lt_law_invariant.proofs.FittingLetters.{few_each}
use Rattle.std.proofs.Common.{◌≡◌, ◌≢◌, ℕ, zero, suc, ◌+◌, ◌<◌, ◌≤◌, inl, inr, Bool, true, false, List, [], ◌∷◌, length, refl, arith, ap, sym, subst, ◌∙◌, Option, Some, None, ◌==◌, ◌||◌, if◌then◌else◌, not, nat_lt, All, Contains, count_by, IsTrue, eq-eqb, ne_eqb, ltb-true, true≢false, le-leb, lt-ltb, take_all, filter_map}
use Rattle.std.proofs.lemmas.Bool.{cases_eq, and_parts, and_from}
use Rattle.std.proofs.lemmas.List.{length-map}
use Rattle.std.proofs.lemmas.List.Elements.{All-contains, All-weaker}
use Rattle.std.proofs.lemmas.List.Sums.{sum_by-cons}
use Rattle.lt_modes.specs.declared.ask.Ask.{Ask}
use Rattle.lt_modes.specs.Script.{ScriptData, SetData, ClientData, home_at}
use Rattle.lt_modes.specs.State.{SetState, Desk}
use Rattle.lt_modes.specs.Waiting.{waits}
use Rattle.lt_modes.specs.Fits.{has_client, are_apart, asks_here, is_at_home, numbers_of}
use Rattle.lt_modes.specs.Sound.{SoundHere, SoundDesk}
use Rattle.lt_modes.specs.declared.command.Command.{Command}
use Rattle.lt_modes.specs.declared.parts.Row.{Row}
use Rattle.lt_modes.specs.Modes.{is_of, locks_of, locks_in}
use Rattle.lt_modes.specs.declared.command.Command.TheVariants as command
use Rattle.lt_lists.specs.Below.{sum_below, one_if, any_below}
use Rattle.lt_lists.proofs.Members.{contains_first, contains_later, few_filtered}
use Rattle.lt_lists.proofs.Sums.{sum_below-add, sum_below-at, sum_below-most, sum_below-same, sum_below-one, sum_below-none}
use Rattle.lt_lists.proofs.Searches.{any_below_none}
use Rattle.lt_spec.specs.Script.{IsScript, load_of, IsRequest}
use Rattle.lt_spec.specs.declared.limits.TheConstants.{MAX_CLIENTS, MAX_CLIENTS_OF_NODE, MAX_COMMANDS_OF_SERVICE}
use Rattle.lt_spec.specs.NodeMove.{home, family, related, locks_in_sets, NodeState, command_if, commands_of, node_waits, IsWhole, HasTargetsAt}
use Rattle.lt_spec.specs.Limits.{desk_within, set_within, leaves_ask}
use Rattle.lt_spec.specs.Script as of_script
use Rattle.lt_spec.specs.World.{Logged, world_after, IsRun}
use Rattle.lt_model.specs.Homes.{IsAskOf, IsRowAtHome, Homes}
use Rattle.lt_model.specs.Invariant.{ClientsKept, WorldInvariant}
use Rattle.lt_model.proofs.HomesMove.{homes_in_runs}
use Rattle.lt_model.proofs.CountMove.{sum_places}
use Rattle.lt_law_invariant.proofs.Counting.{weight_at, by_key, few_keys, length_sum, filtered_weight}
use Rattle.lt_law_invariant.proofs.SoundStates.{kept_in_runs}
use Rattle.lt_law_invariant.specs.InvariantLaws.{NodesStayWithin, DropsStayWithin, AsksArePlaced}
use Rattle.lt_law_invariant.proofs.RowsKept.{made_in_runs}

abbrev asks_by : List Ask → ℕ → ℕ
asks_by asks c = weight_at (λ (ask : Ask). ask.client) (λ (ask : Ask). 1) asks c

-- no ask of a client is in a list that has none
none_by : (c : ℕ) (asks : List Ask) → has_client c asks ≡ false → asks_by asks c ≡ 0
none_by c [] e = refl
none_by c (ask ∷ rest) e = by_test (none_by c rest) (ask.client == c) refl e
  where
    by_test : (has_client c rest ≡ false → asks_by rest c ≡ 0) → (same : Bool) → (ask.client == c) ≡ same
        → (same || has_client c rest) ≡ false → asks_by (ask ∷ rest) c ≡ 0
    by_test again true t h = absurd (true≢false h)
    by_test again false t h =
        let here : ◌≡◌ {A = ℕ} (if ask.client == c then 1 else 0) 0 = ap (λ (b : Bool). if b then 1 else 0) t in
        omega (arith, here, again h, sum_by-cons (λ (other : Ask). if other.client == c then 1 else 0) ask rest)

-- asks that are apart have each client once
once_by : (asks : List Ask) → are_apart asks ≡ true → (c : ℕ) → asks_by asks c ≤ 1
once_by [] h c = omega arith
once_by (ask ∷ rest) h c =
    let parts = and_parts _ _ h in
    let added = sum_by-cons (λ (other : Ask). if other.client == c then 1 else 0) ask rest in
    elim (cases_eq ask.client c) [
      | inl e ↦
          let none = none_by c rest (subst (λ (k : ℕ). has_client k rest ≡ false) e (is_not (has_client ask.client rest) parts.0)) in
          let here : ◌≡◌ {A = ℕ} (if ask.client == c then 1 else 0) 1 = ap (λ (b : Bool). if b then 1 else 0) (eq-eqb ask.client c e) in
          omega (arith, added, none, here)
      | inr d ↦
          let here : ◌≡◌ {A = ℕ} (if ask.client == c then 1 else 0) 0 = ap (λ (b : Bool). if b then 1 else 0) (ne_eqb ask.client c d) in
          omega (arith, added, here, once_by rest parts.1 c)
    ]
  where
    is_not : (found : Bool) → not found ≡ true → found ≡ false
    is_not true e = sym e
    is_not false e = refl

client_below : (script : ScriptData) (ask : Ask) → IsTrue (is_at_home (numbers_of script) ask) → ask.client < length script.clients
client_below script ask h =
    let below : nat_lt ask.client (length (numbers_of script).homes) ≡ true = (and_parts _ _ (and_parts _ _ h).1).0 in
    omega (arith, ltb-true ask.client (length (numbers_of script).homes) below, length-map script.clients (λ (client : ClientData). client.node))

pub few_here : (script : ScriptData) (q : ℕ) (t : SetState) → IsScript script → All (SoundHere (numbers_of script) q t) (asks_here t)
    → IsTrue (are_apart (asks_here t)) → length (asks_here t) ≤ MAX_CLIENTS
few_here script q t is_script here apart =
    let few = few_keys (length script.clients) (λ (ask : Ask). ask.client) (asks_here t)
    (λ ask on. client_below script ask (All-contains (SoundHere (numbers_of script) q t) (asks_here t) ask here on).home)
    (λ c h. once_by (asks_here t) apart c) in
    omega (arith, few, is_script.few_clients)

-- a sum without its first term
sum_rest : (n : ℕ) (f : ℕ → ℕ) → sum_below (suc n) f ≡ f 0 + sum_below n (λ k. f (suc k))
sum_rest zero f = omega arith
sum_rest (suc n) f = omega (arith, sum_rest n f)

-- the clients of a node, by number
loads : (q : ℕ) (clients : List ClientData) → sum_below (length clients) (λ c. one_if (home_at clients c == q)) ≡ load_of clients q
loads q [] = refl
loads q (client ∷ rest) =
    let first = sum_rest (length rest) (λ c. one_if (home_at (client ∷ rest) c == q)) in
    let added = sum_by-cons (λ (x : ClientData). if x.node == q then 1 else 0) client rest in
    omega (arith, first, added, loads q rest, ones (client.node == q))
  where
    ones : (same : Bool) → one_if same ≡ (if same then 1 else 0)
    ones true = refl
    ones false = refl

-- where a client of the node has no unanswered ask in the set, fewer are unanswered than a node may have clients
pub few_pending : (script : ScriptData) (q s c : ℕ) (n : NodeState) → IsScript script → ((k : ℕ) → count_by (λ (ask : Ask). ask.client == k) (n.set s).pending ≤ 1)
    → All (IsAskOf script q) (n.set s).pending → s < length script.sets → c < length script.clients → home script c ≡ q
    → has_client c (n.set s).pending ≡ false → length (n.set s).pending < MAX_CLIENTS_OF_NODE
few_pending script q s c n is_script few own within below at_home free =
    let asks = (n.set s).pending in
    let count = length script.clients in
    let here : ℕ → ℕ = λ k. if k == c then 1 else 0 in
    let counted = by_key count (λ (ask : Ask). ask.client) (λ (ask : Ask). 1) asks
    (λ ask on. (All-contains (IsAskOf script q) asks ask own on).0.client) in
    let most = sum_below-most count (λ k. asks_by asks k + here k) (λ k. one_if (home script k == q)) (λ k h. each k) in
    let added = sum_below-add count (asks_by asks) here in
    let itself : ◌≡◌ {A = ℕ} (if c == c then 1 else 0) 1 = ap (λ (b : Bool). if b then 1 else 0) (eq-eqb c c refl) in
    let one = sum_below-at count c here below in
    omega (arith, counted, length_sum asks, most, added, one, itself, loads q script.clients, is_script.loads q)
  where
    elsewhere : (k : ℕ) (asks : List Ask) → home script k ≢ q → ((ask : Ask) → Contains asks ask → IsAskOf script q ask) → asks_by asks k ≡ 0
    elsewhere k [] d own_each = refl
    elsewhere k (ask ∷ rest) d own_each =
        let first = own_each ask (contains_first ask ask rest refl) in
        let other : ask.client ≢ k = λ e. d (sym (ap (home script) e) ∙ (first.0.home ∙ first.1)) in
        let none : ◌≡◌ {A = ℕ} (if ask.client == k then 1 else 0) 0 = ap (λ (b : Bool). if b then 1 else 0) (ne_eqb ask.client k other) in
        omega (
          arith,
          none,
          elsewhere k rest d (λ x on. own_each x (contains_later ask x rest on)),
          sum_by-cons (λ (x : Ask). if x.client == k then 1 else 0) ask rest,
        )

    each : (k : ℕ) → asks_by (n.set s).pending k + (if k == c then 1 else 0) ≤ one_if (home script k == q)
    each k = elim (cases_eq k c) [
      | inl e ↦
          let none = subst (λ (x : ℕ). asks_by (n.set s).pending x ≡ 0) (sym e) (none_by c (n.set s).pending free) in
          let here : ◌≡◌ {A = ℕ} (if k == c then 1 else 0) 1 = ap (λ (b : Bool). if b then 1 else 0) (eq-eqb k c e) in
          let there = ap one_if (eq-eqb (home script k) q (ap (home script) e ∙ at_home)) in
          omega (arith, none, here, there)
      | inr d ↦
          let here : ◌≡◌ {A = ℕ} (if k == c then 1 else 0) 0 = ap (λ (b : Bool). if b then 1 else 0) (ne_eqb k c d) in
          elim (cases_eq (home script k) q) [
            | inl e ↦
                let there = ap one_if (eq-eqb (home script k) q e) in
                omega (arith, here, there, few k)
            | inr away ↦
                let there = ap one_if (ne_eqb (home script k) q away) in
                let none = elsewhere k (n.set s).pending away (λ ask on. All-contains (IsAskOf script q) (n.set s).pending ask own on) in
                omega (arith, here, there, none)
          ]
    ]

-- A node holds no more locks of a set than a script has commands.

suc_one : (m : ℕ) → suc m ≡ 1 + m
suc_one m = omega arith

-- the commands of all clients are the script's at most
all_commands : (n : ℕ) (requests : List (ℕ × Command)) → sum_below n (λ c. length (filter_map (command_if c) requests)) ≤ length requests
all_commands n [] =
    let none = sum_below-none n (λ c. length (filter_map (command_if c) [])) (λ k h. refl) in
    omega (arith, none)
all_commands n ((client, command) ∷ rest) =
    let here : ℕ → ℕ = λ k. if k == client then 1 else 0 in
    let same = sum_below-same n (λ c. length (filter_map (command_if c) ((client, command) ∷ rest))) (λ c. here c + length (filter_map (command_if c) rest)) (λ k h. at k) in
    let added = sum_below-add n here (λ c. length (filter_map (command_if c) rest)) in
    omega (arith, same, added, sum_below-one n client 1, all_commands n rest)
  where
    counted : (same : Bool) (k : ℕ) → (client == k) ≡ same → (k == client) ≡ same
        → length (filter_map (command_if k) ((client, command) ∷ rest)) ≡ (if k == client then 1 else 0) + length (filter_map (command_if k) rest)
    counted true k e f =
        let one : ◌≡◌ {A = ℕ} (if k == client then 1 else 0) 1 = ap (λ (b : Bool). if b then 1 else 0) f in
        rw (e, one) (suc_one _)
    counted false k e f =
        let none : ◌≡◌ {A = ℕ} (if k == client then 1 else 0) 0 = ap (λ (b : Bool). if b then 1 else 0) f in
        rw (e, none) omega arith

    at : (k : ℕ) → length (filter_map (command_if k) ((client, command) ∷ rest)) ≡ (if k == client then 1 else 0) + length (filter_map (command_if k) rest)
    at k = elim (cases_eq k client) [
      | inl e ↦ counted true k (eq-eqb client k (sym e)) (eq-eqb k client e)
      | inr d ↦ counted false k (ne_eqb client k (λ e. d (sym e))) (ne_eqb k client d)
    ]

pub few_locks : (script : ScriptData) (q s : ℕ) (n : NodeState) → IsScript script → ClientsKept script n
    → ((c : ℕ) → n.made c ≤ length (commands_of script c)) → All (IsRowAtHome script q) (n.set s).held
    → s < length script.sets → locks_in (n.set s).held ≤ MAX_COMMANDS_OF_SERVICE
few_locks script q s n is_script clients made rows within =
    let held = (n.set s).held in
    let count = length script.clients in
    let counted = by_key count (λ (row : Row). row.client) (λ (row : Row). row.count) held below in
    let most = sum_below-most count (weight_at (λ (row : Row). row.client) (λ (row : Row). row.count) held) (λ c. length (commands_of script c)) (λ c h. of_client c) in
    omega (arith, counted, most, all_commands count script.commands, is_script.few_commands)
  where
    below : (row : Row) → Contains (n.set s).held row → row.client < length script.clients
    below row on =
        (All-contains (IsRowAtHome script q) (n.set s).held row rows on).client

    of_client : (c : ℕ) → weight_at (λ (row : Row). row.client) (λ (row : Row). row.count) (n.set s).held c ≤ length (commands_of script c)
    of_client c =
        let own = filtered_weight (is_of c) (λ (row : Row). row.count) (n.set s).held in
        let one = sum_below-at (length script.sets) s (λ t. locks_of (n.set t).held c) within in
        omega (arith, own, one, clients.counts c, made c)

-- What the invariant says of a node is within the limits of scripts.

targets : (script : ScriptData) (client : ℕ) (request : Command) → of_script.HasTargets script.sets script.clients client request
    → HasTargetsAt script client request
targets script client (command.Lock set mode) h = h
targets script client (command.Try set mode) h = h
targets script client (command.Unlock set mode) h = h
targets script client (command.Change set gives_up mode) h = h
targets script client (command.DropAll other set) h = h
targets script client (command.Withdraw other set) h = h

-- a script names what is of it
pub whole : (script : ScriptData) → IsScript script → IsWhole script
whole script is_script = record {
  some_node = is_script.some_node;
  homes = is_script.homes;
  commands = All-weaker (IsRequest script.sets script.clients) (λ (request : ℕ × Command). HasTargetsAt script request.0 request.1)
      (λ request h. targets script request.0 request.1 h.1) script.commands is_script.requests;
}

-- none of the numbers below n fails
none_fails : (n : ℕ) (test : ℕ → Bool) → ((k : ℕ) → k < n → test k ≡ true) → not (any_below n (λ k. not (test k))) ≡ true
none_fails zero test h = refl
none_fails (suc n) test h = rw (h n (omega arith), is_not (any_below n (λ k. not (test k))) (none_fails n test (λ k below. h k (omega (arith, below))))) refl
  where
    is_not : (found : Bool) → not found ≡ true → found ≡ false
    is_not true e = sym e
    is_not false e = refl

desk_is_within : (script : ScriptData) (clock : ℕ) (t : SetState) (desk : Option Desk) → SoundDesk (numbers_of script) false false clock t desk
    → desk_within clock desk ≡ true
desk_is_within script clock t None h = refl
desk_is_within script clock t (Some desk) h =
    let (parked, epoch, number, entries) = h in
    and_from _ _ (le-leb _ _ epoch) (le-leb _ _ number)

-- the world after the whole run
kept_after : (script : ScriptData) (run : List Logged) → IsScript script → IsRun script run → WorldInvariant script (world_after script run)
kept_after script run is_script is_run =
    subst (λ (moves : List Logged). WorldInvariant script (world_after script moves)) (take_all (length run) run (omega arith))
    (kept_in_runs script run (whole script is_script) is_run (length run))

homes_after : (script : ScriptData) (run : List Logged) → IsScript script → IsRun script run → Homes script (world_after script run)
homes_after script run is_script is_run =
    subst (λ (moves : List Logged). Homes script (world_after script moves)) (take_all (length run) run (omega arith))
    (homes_in_runs script run (whole script is_script) is_run (length run))

pub nodes_within : NodesStayWithin
nodes_within script run is_script is_run q below =
    let w = world_after script run in
    let n = w.node q in
    let kept = kept_after script run is_script is_run in
    let homes = homes_after script run is_script is_run in
    let made = made_in_runs script run is_run q in
    none_fails (length script.sets) (λ s. set_within n.clock (n.set s))
    (λ s within.
    let sound = (kept.sets s within).states q below in
    and_from _ _ (le-leb _ _ (few_locks script q s n is_script (kept.clients q below) made (homes.states q s).rows within))
    (and_from _ _ (le-leb _ _ (few_here script q (n.set s) is_script sound.here sound.apart))
    (desk_is_within script n.clock (n.set s) (n.set s).desk sound.desk)))

pub drops_within : DropsStayWithin
drops_within script run is_script is_run q below client s =
    let n = (world_after script run).node q in
    let clients = (kept_after script run is_script is_run).clients q below in
    let locks : ℕ → ℕ = λ t. locks_of (n.set t).held client in
    let part = sum_places (λ k (set : SetData). set.family == family script s) locks 0 script.sets in
    let same : sum_below (0 + length script.sets) locks ≡ sum_below (length script.sets) locks = ap (λ (m : ℕ). sum_below m locks) (omega arith) in
    let few = few_filtered (command_if client) script.commands in
    omega (arith, part, same, clients.counts client, made_in_runs script run is_run q client, few, is_script.few_commands)

pub asks_placed : AsksArePlaced
asks_placed script run is_script is_run client declared runnable =
    let w = world_after script run in
    let q = home script client in
    let n = w.node q in
    let below = is_script.homes client declared in
    let kept = kept_after script run is_script is_run in
    let homes = homes_after script run is_script is_run in
    let few : (s : ℕ) → s < length script.sets → (k : ℕ) → count_by (λ (ask : Ask). ask.client == k) (n.set s).pending ≤ 1 =
    λ s within k. few_each (n.set s).pending ((kept.sets s within).states q below).one_ask k in
    none_fails (length script.sets) (λ s. leaves_ask client (n.set s))
    (λ s within. by_has (n.set s) (has_client client (n.set s).pending) refl (λ free. few_pending script q s client n is_script (few s within) (homes.states q s).pending within declared refl free))
  where
    by_has : (t : SetState) (has : Bool) → has_client client t.pending ≡ has → (has_client client t.pending ≡ false → length t.pending < MAX_CLIENTS_OF_NODE)
        → IsTrue (leaves_ask client t)
    by_has t true e room = ap (λ (b : Bool). b || nat_lt (length t.pending) MAX_CLIENTS_OF_NODE) e
    by_has t false e room = ap (λ (b : Bool). b || nat_lt (length t.pending) MAX_CLIENTS_OF_NODE) e ∙ lt-ltb _ _ (room e)
