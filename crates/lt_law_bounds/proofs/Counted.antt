-- The weight of a script, counted by its commands.
use Rattle.std.proofs.Common.{◌≡◌, ◌≢◌, ℕ, zero, suc, ◌+◌, ◌*◌, ◌<◌, ◌≤◌, inl, inr, Bool, true, false, List, [], ◌∷◌, length, refl, arith, ap, sym, subst, ◌==◌, if◌then◌else◌, sum_by, filter_map, eq-eqb, ne_eqb}
use Rattle.std.specs.List.{AllByRecursion}
use Rattle.std.proofs.lemmas.Bool.{cases_eq}
use Rattle.std.proofs.lemmas.List.Elements.{recursion_from_All, All-weaker}
use Rattle.std.proofs.lemmas.List.Sums.{sum_by-cons}
use Rattle.lt_modes.specs.declared.command.Command.{Command}
use Rattle.lt_modes.specs.declared.command.Command.TheVariants.{Lock, Unlock, Try, Change, DropAll, Withdraw}
use Rattle.lt_modes.specs.Script.{ScriptData, SetData}
use Rattle.lt_lists.specs.Below.{sum_below}
use Rattle.lt_lists.proofs.Sums.{sum_below-same, sum_below-add, sum_below-none, sum_below-change}
use Rattle.lt_spec.specs.NodeMove.{command_if}
use Rattle.lt_spec.specs.Script.{IsScript, IsRequest}
use Rattle.lt_law_ends.specs.Weights.{tell_weight, command_weight, script_weight, most_tokens}
use Rattle.lt_law_bounds.specs.Bounds.{command_moves, all_moves, weight_bound, TokensByCommands, WeighsByCommands, WeighsAtMost, MovesByCommands}

-- a client of the script makes each of these commands
abbrev AreOfClients : ℕ → List (ℕ × Command) → Type 0
AreOfClients n requests = AllByRecursion (λ (r : ℕ × Command). r.0 < n) requests

-- one term alone
one_term : (n client x : ℕ) → client < n → sum_below n (λ k. if k == client then x else 0) ≡ x
one_term n client x below =
    let here : ◌≡◌ {A = ℕ} (if client == client then x else 0) x =
    ap (λ (b : Bool). if b then x else 0) (eq-eqb client client refl) in
    let others = sum_below-none n (λ k. 0) (λ k h. refl) in
    let changed = sum_below-change n client (λ k. if k == client then x else 0) (λ k. 0) below (λ k h d. elsewhere k d) in
    omega (arith, here, others, changed)
  where
    elsewhere : (k : ℕ) → k ≢ client → ◌≡◌ {A = ℕ} (if k == client then x else 0) 0
    elsewhere k d = ap (λ (b : Bool). if b then x else 0) (ne_eqb k client d)

-- summed client by client the commands come to what they come to in the list
by_client : (f : Command → ℕ) (n : ℕ) (requests : List (ℕ × Command)) → AreOfClients n requests
    → sum_below n (λ c. sum_by f (filter_map (command_if c) requests)) ≡ sum_by (λ (r : ℕ × Command). f r.1) requests
by_client f n [] own = sum_below-none n (λ c. sum_by f (filter_map (command_if c) [])) (λ k h. refl)
by_client f n ((client, command) ∷ rest) own =
    let here : ℕ → ℕ = λ k. if k == client then f command else 0 in
    let later : ℕ → ℕ = λ c. sum_by f (filter_map (command_if c) rest) in
    omega (
      arith,
      sum_below-same n (λ c. sum_by f (filter_map (command_if c) ((client, command) ∷ rest))) (λ c. here c + later c) (λ k h. at k),
      sum_below-add n here later,
      one_term n client (f command) own.0,
      by_client f n rest own.1,
      sum_by-cons (λ (r : ℕ × Command). f r.1) (client, command) rest,
    )
  where
    counted : (own_one : Bool) (k : ℕ) → (client == k) ≡ own_one → (k == client) ≡ own_one
        → sum_by f (filter_map (command_if k) ((client, command) ∷ rest))
        ≡ (if k == client then f command else 0) + sum_by f (filter_map (command_if k) rest)
    counted true k e g =
        let one : ◌≡◌ {A = ℕ} (if k == client then f command else 0) (f command) = ap (λ (b : Bool). if b then f command else 0) g in
        rw (e, one) (sum_by-cons f command (filter_map (command_if k) rest))
    counted false k e g =
        let none : ◌≡◌ {A = ℕ} (if k == client then f command else 0) 0 = ap (λ (b : Bool). if b then f command else 0) g in
        rw (e, none) omega arith

    at : (k : ℕ) → sum_by f (filter_map (command_if k) ((client, command) ∷ rest))
        ≡ (if k == client then f command else 0) + sum_by f (filter_map (command_if k) rest)
    at k = elim (cases_eq k client) [
      | inl e ↦ counted true k (eq-eqb client k (sym e)) (eq-eqb k client e)
      | inr d ↦ counted false k (ne_eqb client k (λ e. d (sym e))) (ne_eqb k client d)
    ]

of_clients : (script : ScriptData) → IsScript script → AreOfClients (length script.clients) script.commands
of_clients script is =
    recursion_from_All (λ (r : ℕ × Command). r.0 < length script.clients) script.commands
    (All-weaker (IsRequest script.sets script.clients) (λ (r : ℕ × Command). r.0 < length script.clients)
    (λ request h. h.0) script.commands is.requests)

-- the same number for each command
six_each : (requests : List (ℕ × Command)) → sum_by (λ (r : ℕ × Command). 6) requests ≡ 6 * length requests
six_each [] = refl
six_each (r ∷ rest) = omega (arith, sum_by-cons (λ (x : ℕ × Command). 6) r rest, six_each rest)

pub tokens_by_commands : TokensByCommands
tokens_by_commands script is =
    omega (arith, by_client (λ command. 6) (length script.clients) script.commands (of_clients script is), six_each script.commands)

-- the same number for each set
tells_each : (most : ℕ) (sets : List SetData) → sum_by (λ (set : SetData). tell_weight most) sets ≡ length sets * (most + 2)
tells_each most [] = omega arith
tells_each most (set ∷ rest) = omega (arith, sum_by-cons (λ (x : SetData). tell_weight most) set rest, tells_each most rest)

same_each : (n each : ℕ) → sum_below n (λ s. each + each) ≡ n * (2 * each)
same_each zero each = omega arith
same_each (suc n) each = omega (arith, same_each n each)

one_command : (script : ScriptData) (most : ℕ) (command : Command)
    → command_weight script most command ≡ command_moves (length script.sets) script.nodes most command
one_command script most (Lock s mode) = omega arith
one_command script most (Try s mode) = omega arith
one_command script most (Unlock s mode) = omega arith
one_command script most (Change s gives_up mode) = omega arith
one_command script most (Withdraw other s) = omega arith
one_command script most (DropAll other s) = omega (arith, tells_each most script.sets)

each_command : (script : ScriptData) (most : ℕ) (requests : List (ℕ × Command))
    → sum_by (λ (r : ℕ × Command). command_weight script most r.1) requests
    ≡ all_moves (length script.sets) script.nodes most requests
each_command script most [] = refl
each_command script most (r ∷ rest) =
    omega (
      arith,
      sum_by-cons (λ (x : ℕ × Command). command_weight script most x.1) r rest,
      one_command script most r.1,
      each_command script most rest,
    )

pub weighs_by_commands : WeighsByCommands
weighs_by_commands script most is =
    omega (
      arith,
      by_client (command_weight script most) (length script.clients) script.commands (of_clients script is),
      each_command script most script.commands,
      same_each (length script.sets) most,
    )

-- no command leads to more moves than this
one_at_most : (sets nodes most : ℕ) (command : Command)
    → command_moves sets nodes most command ≤ 3 * most + 2 * nodes + 6 + sets * (most + 2)
one_at_most sets nodes most (Lock s mode) = omega arith
one_at_most sets nodes most (Try s mode) = omega arith
one_at_most sets nodes most (Unlock s mode) = omega arith
one_at_most sets nodes most (Change s gives_up mode) = omega arith
one_at_most sets nodes most (Withdraw other s) = omega arith
one_at_most sets nodes most (DropAll other s) = omega arith

all_at_most : (sets nodes most each : ℕ) → ((command : Command) → command_moves sets nodes most command ≤ each)
    → (requests : List (ℕ × Command)) → all_moves sets nodes most requests ≤ length requests * each
all_at_most sets nodes most each h [] = omega arith
all_at_most sets nodes most each h (r ∷ rest) = omega (arith, h r.1, all_at_most sets nodes most each h rest)

pub weighs_at_most : WeighsAtMost
weighs_at_most script most is =
    omega (
      arith,
      weighs_by_commands script most is,
      all_at_most (length script.sets) script.nodes most
          (3 * most + 2 * script.nodes + 6 + length script.sets * (most + 2))
          (one_at_most (length script.sets) script.nodes most) script.commands,
    )

pub moves_by_commands : MovesByCommands
moves_by_commands script is =
    subst (λ (most : ℕ). script_weight script (most_tokens script)
    ≤ weight_bound (length script.commands) (length script.sets) script.nodes most)
    (tokens_by_commands script is) (weighs_at_most script (most_tokens script) is)
