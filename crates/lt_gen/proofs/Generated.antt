-- The names of the clients are names, and all apart.
use Rattle.std.proofs.Common.{◌≡◌, ℕ, zero, suc, ◌<◌, ◌≤◌, ◌≢◌, true, false, nat_le, List, [], ◌∷◌, length, None, position, refl, arith, codes, ◌+◌, ◌*◌, ◌/◌, ◌%◌, ◌==◌, cond, ◌++◌, ap, mod-lt, inl, inr, ◌-◌, sym, ◌∙◌, length-append, bytes_eq, decimal, leb-true, le-leb, ne_eqb, eq-eqb, append-nil, append_assoc, lt_of_mul-lt-mul_right}
use Rattle.std.specs.List.{list_all}
use Rattle.std.specs.Char.{is_ascii_digit}
use Rattle.std.proofs.lemmas.Bool.{and_parts, and_from, false_from_ne_true, cases_eq}
use Rattle.std.proofs.lemmas.Slice.Eq.{bytes_eq-Decides}
use Rattle.std.proofs.lemmas.List.{append_cancel_left, length_push}
use Rattle.std.proofs.lemmas.Fmt.{length-decimal-le, decimal_injective}
use Rattle.std.proofs.Math.Nat.{mod-add-div'}
use Rattle.std.proofs.lemmas.Nat.{mul-le}
use Rattle.std.proofs.lemmas.List.Sums.{sum_by_push}
use Rattle.rand_pcg.specs.Lcg.{Lcg}
use Rattle.lt_modes.specs.Script.{ScriptData, ClientData}
use Rattle.lt_modes.specs.declared.command.Command.{Command}
use Rattle.lt_spec.specs.Script.{is_name, is_name_byte, is_declared, load_of}
use Rattle.lt_text.specs.Number.{are_digits}
use Rattle.lt_text.proofs.NumberLemmas.{decimal_are_digits}
use Rattle.lt_script.proofs.NameLemmas.{found_never}
use Rattle.lt_gen.specs.Generator.{drawn_client, client_at, clients_of, four_sets, group_of, group_commands, requests_of, requests_in, Making}
use Rattle.lt_gen.specs.declared.group.Group.{Group}
use Rattle.lt_gen.specs.declared.group.Group.TheVariants.{Last, Lock, Try, Upgrade, Change, GiveUp, Release, Withdraw}
use Rattle.lt_gen.specs.declared.group.Sizes.{Sizes}

digits_in_names : (ds : List ℕ) → are_digits ds ≡ true → list_all is_name_byte ds ≡ true
digits_in_names [] e = refl
digits_in_names (d ∷ ds) e =
    let parts = and_parts (is_ascii_digit d) (are_digits ds) e in
    and_from (is_name_byte d) (list_all is_name_byte ds) (rw parts.0 refl) (digits_in_names ds parts.1)

-- digits begin with no letter
no_letter : (ds : List ℕ) (letter : ℕ) (rest : List ℕ) → are_digits ds ≡ true → 57 < letter → bytes_eq ds (letter ∷ rest) ≡ false
no_letter [] letter rest digits high = refl
no_letter (d ∷ ds) letter rest digits high =
    let first = and_parts (is_ascii_digit d) (are_digits ds) digits in
    let bounds = and_parts (nat_le 48 d) (nat_le d 57) first.0 in
    rw (ne_eqb d letter (λ e. omega (arith, leb-true d 57 bounds.1))) refl

pub name_made : (n : ℕ) → n < 10000 → is_name (drawn_client n) ≡ true
name_made n small =
    let digits = decimal_are_digits n (omega arith) in
    rw (
      le-leb (suc (length (decimal n))) 32 (omega (arith, length-decimal-le 4 n (omega arith) small (omega arith))),
      digits_in_names (decimal n) digits,
      no_letter (decimal n) 108 (codes "ient") digits (omega arith),
    ) refl

-- two clients have two names
apart : (m n : ℕ) → m < 10000 → n < 10000 → m ≢ n → bytes_eq (drawn_client m) (drawn_client n) ≡ false
apart m n low high differ =
    false_from_ne_true (bytes_eq (drawn_client m) (drawn_client n)) (λ same.
    differ (decimal_injective m n (omega arith) (omega arith) (append_cancel_left (codes "c") (decimal m) (decimal n) ((bytes_eq-Decides (drawn_client m) (drawn_client n)).0 same))))

-- no earlier client has the name of this one
none_before : (nodes m n : ℕ) → m ≤ n → n < 10000 → position (λ (x : ClientData). bytes_eq x.name (drawn_client n)) (clients_of nodes m) ≡ None
unfolding clients_of
none_before nodes zero n below small = refl
none_before nodes (suc m) n below small =
    found_never (λ (x : ClientData). bytes_eq x.name (drawn_client n)) (clients_of nodes m) (client_at nodes m) (none_before nodes m n (omega arith) small) (apart m n (omega arith) small (λ e. omega arith))

pub name_is_new : (s : ScriptData) (n : ℕ) → s.sets ≡ four_sets → s.clients ≡ clients_of s.nodes n → n < 10000 → is_declared s (drawn_client n) ≡ false
name_is_new s n sets clients small = rw (sets, clients, none_before s.nodes n n (omega arith) small) refl

-- How many of the clients are on a node, which go round the nodes.

pub clients_counted : (nodes n : ℕ) → length (clients_of nodes n) ≡ n
unfolding clients_of
clients_counted nodes zero = refl
clients_counted nodes (suc n) = omega (arith, length_push (clients_of nodes n) (client_at nodes n), clients_counted nodes n)

pub one_client_more : (nodes n : ℕ) → clients_of nodes n ++ client_at nodes n ∷ [] ≡ clients_of nodes (n + 1)
unfolding clients_of
one_client_more nodes n = let same : suc n ≡ n + 1 = omega arith in ap (clients_of nodes) same

-- so many rounds are whole before client n, if it is on node k
rounds_before : (nodes n k load : ℕ) → n % nodes ≡ k → load * nodes + k < n + nodes → load ≤ n / nodes
rounds_before nodes n k load here few =
    let split : n % nodes + n / nodes * nodes ≡ n = mod-add-div' n nodes in
    let less : load * nodes < (n / nodes + 1) * nodes = omega (arith, here, split, few) in
    omega (arith, lt_of_mul-lt-mul_right nodes less)

load_push : (nodes n k : ℕ) → load_of (clients_of nodes (suc n)) k ≡ load_of (clients_of nodes n) k + cond (n % nodes == k) 1 0
unfolding clients_of
load_push nodes n k = sum_by_push (λ (y : ClientData). cond (y.node == k) 1 0) (clients_of nodes n) (client_at nodes n)

one_more : (nodes n k load : ℕ) → n % nodes ≡ k → load * nodes + k < n + nodes → (load + 1) * nodes + k < suc n + nodes
one_more nodes n k load here before =
    let rounds = rounds_before nodes n k load here before in
    omega (arith, here, mod-add-div' n nodes, mul-le load nodes (n / nodes) nodes rounds (omega arith))

load_bound : (nodes n k : ℕ) → k < nodes → load_of (clients_of nodes n) k * nodes + k < n + nodes
unfolding clients_of
load_bound nodes zero k inside = omega arith
load_bound nodes (suc n) k inside =
    let before = load_bound nodes n k inside in
    rw (load_push nodes n k) (elim (cases_eq (n % nodes) k) [
      | inl here ↦ rw (eq-eqb (n % nodes) k here) (one_more nodes n k (load_of (clients_of nodes n) k) here before)
      | inr other ↦ rw (ne_eqb (n % nodes) k other) (omega (arith, before))
    ])

-- a node has room for the next client, as long as there are at most 16 a node
pub load_fits : (nodes n : ℕ) → 0 < nodes → n < nodes * 16 → load_of (clients_of nodes n) (n % nodes) < 16
load_fits nodes n some few =
    let load = load_of (clients_of nodes n) (n % nodes) in
    let rounds : load ≤ n / nodes = rounds_before nodes n (n % nodes) load refl (load_bound nodes n (n % nodes) (mod-lt n some)) in
    let whole : n / nodes * nodes < 16 * nodes = omega (arith, mod-add-div' n nodes, few) in
    omega (arith, rounds, lt_of_mul-lt-mul_right nodes whole)

-- What a turn makes, and what it leaves.

pub some_commands : (group : Group) → 0 < length (group_commands group)
some_commands Last = omega arith
some_commands (Lock set mode) = omega arith
some_commands (Try set mode) = omega arith
some_commands (Upgrade set) = omega arith
some_commands (Change set) = omega arith
some_commands (GiveUp client set mode) = omega arith
some_commands (Release client set) = omega arith
some_commands (Withdraw client set) = omega arith

pub requests_counted : (client : ℕ) (group : Group) → length (requests_of client group) ≡ length (group_commands group)
requests_counted client Last = refl
requests_counted client (Lock set mode) = refl
requests_counted client (Try set mode) = refl
requests_counted client (Upgrade set) = refl
requests_counted client (Change set) = refl
requests_counted client (GiveUp other set mode) = refl
requests_counted client (Release other set) = refl
requests_counted client (Withdraw other set) = refl

-- the count of what is made and left stays
pub still_counted : (client left all : ℕ) (group : Group) (made : List (ℕ × Command)) → length made + left ≡ all → length (group_commands group) ≤ left
    → length (made ++ requests_of client group) + (left - length (group_commands group)) ≡ all
still_counted client left all group made count few = omega (arith, count, few, length-append made (requests_of client group), requests_counted client group)

pub fewer_turns : (turn left all : ℕ) (group : Group) → turn + left ≤ all → length (group_commands group) ≤ left → turn + 1 + (left - length (group_commands group)) ≤ all
fewer_turns turn left all group fits few = omega (arith, fits, few, some_commands group)

pub next_turn : (sizes : Sizes) (left turn : ℕ) (g : Lcg) (drawn : Group × Lcg) (made whole : List (ℕ × Command)) → drawn ≡ group_of sizes (turn % sizes.clients) left g → 0 < left → Making sizes left turn g made whole
    → Making sizes (left - length (group_commands drawn.0)) (turn + 1) drawn.1 (made ++ requests_of (turn % sizes.clients) drawn.0) whole
unfolding requests_in
next_turn sizes left turn g drawn made whole is some m = by m.turns m.enough m.parts
  where
    by : (turns : ℕ) → left ≤ turns → made ++ requests_in turns sizes left turn g ≡ whole → Making sizes (left - length (group_commands drawn.0)) (turn + 1) drawn.1 (made ++ requests_of (turn % sizes.clients) drawn.0) whole
    by zero enough parts = absurd (omega arith)
    by (suc n) enough parts = record {
      turns = n;
      enough = omega (arith, some_commands drawn.0, enough);
      parts =
          append_assoc made (requests_of (turn % sizes.clients) drawn.0) (requests_in n sizes (left - length (group_commands drawn.0)) (turn + 1) drawn.1)
          ∙ (rw (ne_eqb left 0 (λ e. omega arith), ← is) at parts);
    }

pub all_made : (sizes : Sizes) (turn : ℕ) (g : Lcg) (made whole : List (ℕ × Command)) → Making sizes 0 turn g made whole → made ≡ whole
unfolding requests_in
all_made sizes turn g made whole m = by m.turns m.parts
  where
    by : (turns : ℕ) → made ++ requests_in turns sizes 0 turn g ≡ whole → made ≡ whole
    by zero parts = sym (append-nil made) ∙ parts
    by (suc n) parts = sym (append-nil made) ∙ parts
