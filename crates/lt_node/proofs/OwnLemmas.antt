-- The clients of a node, in order, and the first of them that can act.
use Rattle.std.proofs.Common.{◌≡◌, ◌≢◌, ◌+◌, ◌<◌, ◌≤◌, ◌++◌, ◌&&◌, ◌∙◌, true, false, Bool, ℕ, List, [], ◌∷◌, None, Some, drop, slice_index_or, length, arith, sym, subst, ap, inl, inr, eq-eqb, ne_eqb}
use Rattle.std.proofs.lemmas.Bool.{cases_eq, cases_lt}
use Rattle.std.proofs.lemmas.List.{drop_all, drop_more}
use Rattle.lt_modes.specs.Script.{ScriptData, ClientData, home_at}
use Rattle.lt_spec.specs.NodeMove.{NodeState, has_command, is_free_at}
use Rattle.lt_node.specs.Clients.{AreOwn, IsFirstOwn, IsLeast, is_runnable_here}

-- the next number isn't that of a client of the node
pub own_passed : (clients : List ClientData) (q from to : ℕ) (own : List ℕ) → AreOwn clients q from to own → home_at clients to ≢ q → AreOwn clients q from (to + 1) own
own_passed clients q from to [] none other = λ k above below. elim (cases_eq k to) [
  | inl same ↦ subst (λ (i : ℕ). home_at clients i ≢ q) (sym same) other
  | inr apart ↦ none k above (omega (arith, below, apart))
]
own_passed clients q from to (client ∷ rest) own other = (
  record { above = own.0.above; below = omega (arith, own.0.below); here = own.0.here; none = own.0.none },
  own_passed clients q (client + 1) to rest own.1 other,
)

pub none_to_0 : (clients : List ClientData) (q : ℕ) (own : List ℕ) → own ≡ [] → AreOwn clients q 0 0 own
none_to_0 clients q own none = subst (AreOwn clients q 0 0) (sym none) (λ k above below. absurd (omega (arith, below)))

-- it is that of one
pub own_more : (clients : List ClientData) (q from to : ℕ) (own : List ℕ) → AreOwn clients q from to own → from ≤ to → home_at clients to ≡ q
    → AreOwn clients q from (to + 1) (own ++ to ∷ [])
own_more clients q from to [] none above here = (
  record { above = above; below = omega arith; here = here; none = none },
  λ k after before. absurd (omega (arith, after, before)),
)
own_more clients q from to (client ∷ rest) own above here = (
  record { above = own.0.above; below = omega (arith, own.0.below); here = own.0.here; none = own.0.none },
  own_more clients q (client + 1) to rest own.1 (omega (arith, own.0.below)) here,
)

-- no client of the node before these can act
pub record NoneBefore (script : ScriptData) (q : ℕ) (n : NodeState) (rest : List ℕ) : Type 0 where
  pub from : ℕ
  pub own : AreOwn script.clients q from (length script.clients) rest
  pub none : (k : ℕ) → k < from → is_runnable_here script q n k ≡ false

pub none_first : (script : ScriptData) (q : ℕ) (n : NodeState) (own : List ℕ) → AreOwn script.clients q 0 (length script.clients) own → NoneBefore script q n own
none_first script q n own are = record { from = 0; own = are; none = λ k below. absurd (omega (arith, below)) }

-- the next of them
module _ (script : ScriptData) (q : ℕ) (n : NodeState) (own : List ℕ) (place d : ℕ) (inside : place < length own) (before : NoneBefore script q n (drop place own)) where
  abbrev client : ℕ
  client = slice_index_or own place d

  rest : AreOwn script.clients q before.from (length script.clients) (client ∷ drop (place + 1) own)
  rest = subst (AreOwn script.clients q before.from (length script.clients)) (drop_more own place d inside) before.own

  pub own_next : IsFirstOwn script.clients q before.from (length script.clients) client
  own_next = rest.0

  none_below : (k : ℕ) → k < client → is_runnable_here script q n k ≡ false
  none_below k below = elim (cases_lt k before.from) [
    | inl earlier ↦ before.none k earlier
    | inr later ↦ ap (λ (b : Bool). b && (is_free_at script n k && has_command script n k)) (ne_eqb _ q (rest.0.none k later below))
  ]

  -- it is one of the node's, so it can act where it doesn't wait and has a command left
  runs : (b : Bool) → b ≡ (is_free_at script n client && has_command script n client) → is_runnable_here script q n client ≡ b
  runs b is = ap (λ (t : Bool). t && (is_free_at script n client && has_command script n client)) (eq-eqb _ q rest.0.here) ∙ sym is

  pub found_first : true ≡ (is_free_at script n client && has_command script n client) → IsLeast (length script.clients) (is_runnable_here script q n) (Some client)
  found_first is = (rest.0.below, runs true is, none_below)

  pub none_next : false ≡ (is_free_at script n client && has_command script n client) → NoneBefore script q n (drop (place + 1) own)
  none_next is = record {
    from = client + 1;
    own = rest.1;
    none = λ k below. elim (cases_eq k client) [
      | inl same ↦ ap (is_runnable_here script q n) same ∙ runs false is
      | inr apart ↦ none_below k (omega (arith, below, apart))
    ];
  }

pub none_at_all : (script : ScriptData) (q : ℕ) (n : NodeState) (own : List ℕ) (place : ℕ) → length own ≤ place → NoneBefore script q n (drop place own)
    → IsLeast (length script.clients) (is_runnable_here script q n) None
none_at_all script q n own place end before = λ k inside. elim (cases_lt k before.from) [
  | inl earlier ↦ before.none k earlier
  | inr later ↦
      let none = subst (AreOwn script.clients q before.from (length script.clients)) (drop_all place own end) before.own in
      ap (λ (b : Bool). b && (is_free_at script n k && has_command script n k)) (ne_eqb _ q (none k later inside))
]
