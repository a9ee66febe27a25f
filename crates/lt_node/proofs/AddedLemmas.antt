-- Marks that are added to marks.
use Rattle.std.proofs.Common.{◌≡◌, ◌≢◌, ◌<◌, ◌≤◌, inl, inr, nat_lt, eq-eqb, ne_eqb, ◌+◌, ◌∙◌, ◌==◌, ◌&&◌, ◌||◌, ℕ, Bool, true, false, List, [], ◌∷◌, length, drop, refl, sym, ap, subst, arith, slice_index_or}
use Rattle.std.proofs.Math.Bool.{or_assoc, or_comm, or-false}
use Rattle.std.proofs.Math.Seq.{drop-length}
use Rattle.std.proofs.lemmas.Bool.{cases_eq, cases_lt, false≢true, le-ltb, lt-ltb}
use Rattle.std.proofs.lemmas.List.{drop_more}
use Rattle.std.specs.List.{list_any}
use Rattle.lt_modes.specs.declared.ask.Ask.{Ask}
use Rattle.lt_modes.specs.Fits.{has_client, parked_asks}
use Rattle.lt_modes.specs.State.{SetState, no_ask}
use Rattle.lt_modes.specs.Waiting.{is_before, has_older, parked_behind}
use Rattle.lt_core.proofs.BoundLemmas.{before_step}
use Rattle.lt_node.specs.Marks.{AreAdded}

pub added_none : (test : ℕ → Bool) (old : List Bool) → ((k : ℕ) → test k ≡ false) → AreAdded test old old
added_none test old none = record {
  count = refl;
  marks = λ k inside. sym (ap (λ (b : Bool). slice_index_or old k false || b) (none k) ∙ or-false (slice_index_or old k false));
}

pub added_same : (test other : ℕ → Bool) (old new : List Bool) → ((k : ℕ) → k < length old → test k ≡ other k) → AreAdded test old new → AreAdded other old new
added_same test other old new same added = record {
  count = added.count;
  marks = λ k inside. added.marks k inside ∙ ap (λ (b : Bool). slice_index_or old k false || b) (same k inside);
}

-- first those that pass one test, and then those that pass another one
pub added_then : (first second : ℕ → Bool) (old between new : List Bool) → AreAdded first old between → AreAdded second between new → AreAdded (λ k. first k || second k) old new
added_then first second old between new one more = record {
  count = more.count ∙ one.count;
  marks = λ k inside.
      more.marks k (subst (λ (n : ℕ). k < n) (sym one.count) inside)
      ∙ ap (λ (b : Bool). b || second k) (one.marks k inside)
      ∙ or_assoc (slice_index_or old k false) (first k) (second k);
}

-- The clients whose asks stand before one of a client, from a place of the queue on.

pub before_none : (client : ℕ) (queue : List Ask) (old : List Bool) → AreAdded (λ other. is_before other client (drop (length queue) queue)) old old
before_none client queue old = added_none _ old (λ other. ap (is_before other client) (drop-length queue))

pub later_none : (client : ℕ) (queue : List Ask) → false ≡ has_client client (drop (length queue) queue)
later_none client queue = sym (ap (λ (asks : List Ask). has_client client asks) (drop-length queue))

pub before_more : (client k : ℕ) (later : Bool) (queue : List Ask) (old between new : List Bool) → k < length queue
    → later ≡ has_client client (drop (k + 1) queue)
    → AreAdded (λ other. is_before other client (drop (k + 1) queue)) old between
    → AreAdded (λ other. (slice_index_or queue k no_ask).client == other && later) between new
    → AreAdded (λ other. is_before other client (drop k queue)) old new
before_more client k later queue old between new inside is before here =
    added_same _ _ old new (λ other below.
    or_comm (is_before other client (drop (k + 1) queue)) ((slice_index_or queue k no_ask).client == other && later)
    ∙ ap (λ (b : Bool). ((slice_index_or queue k no_ask).client == other && b) || is_before other client (drop (k + 1) queue)) is
    ∙ sym (before_step other client queue k inside))
    (added_then _ _ old between new before here)

pub later_more : (client k : ℕ) (later : Bool) (queue : List Ask) → k < length queue → later ≡ has_client client (drop (k + 1) queue)
    → (later || ((slice_index_or queue k no_ask).client == client)) ≡ has_client client (drop k queue)
later_more client k later queue inside is =
    or_comm later ((slice_index_or queue k no_ask).client == client)
    ∙ ap (λ (b : Bool). (slice_index_or queue k no_ask).client == client || b) is
    ∙ sym (ap (λ (asks : List Ask). has_client client asks) (drop_more queue k no_ask inside))

-- nobody who has no parked ask is parked behind others
pub parked_none : (s : SetState) (client other : ℕ) → has_client client (parked_asks s) ≡ false → parked_behind s other client ≡ false
parked_none s client other none = none_of (parked_asks s) none
  where
    none_of : (asks : List Ask) → has_client client asks ≡ false → list_any (λ (ask : Ask). ask.client == client && has_older s other ask) asks ≡ false
    none_of [] e = refl
    none_of (ask ∷ rest) e = by_test (ask.client == client) e (none_of rest)
      where
        by_test : (b : Bool) → (b || has_client client rest) ≡ false
            → (has_client client rest ≡ false → list_any (λ (a : Ask). a.client == client && has_older s other a) rest ≡ false)
            → ((b && has_older s other ask) || list_any (λ (a : Ask). a.client == client && has_older s other a) rest) ≡ false
        by_test false e again = again e
        by_test true e again = absurd (false≢true (sym e))

-- The clients below a number that pass a test, one after the other.

pub below_marked_none : (test : ℕ → Bool) (old : List Bool) → AreAdded (λ other. nat_lt other 0 && test other) old old
below_marked_none test old = added_none _ old (λ k. ap (λ (b : Bool). b && test k) (le-ltb k 0 (omega arith)))

pub below_marked_more : (test : ℕ → Bool) (k : ℕ) (passes : Bool) (old between new : List Bool) → passes ≡ test k → AreAdded (λ other. nat_lt other k && test other) old between
    → AreAdded (λ other. k == other && passes) between new → AreAdded (λ other. nat_lt other (k + 1) && test other) old new
below_marked_more test k passes old between new is before here =
    added_same _ _ old new (λ other inside. by_place other) (added_then _ _ old between new before (subst (λ (b : Bool). AreAdded (λ other. k == other && b) between new) is here))
  where
    by_place : (other : ℕ) → ((nat_lt other k && test other) || (k == other && test k)) ≡ (nat_lt other (k + 1) && test other)
    by_place other = elim (cases_eq k other) [
      | inl same ↦
          let last : nat_lt other (k + 1) ≡ true = lt-ltb other (k + 1) (omega (arith, same)) in
          let earlier : nat_lt other k ≡ false = le-ltb other k (omega (arith, same)) in
          ap (λ (b : Bool). (b && test other) || (k == other && test k)) earlier ∙ ap (λ (b : Bool). b && test k) (eq-eqb k other same) ∙ ap test same
          ∙ sym (ap (λ (b : Bool). b && test other) last)
      | inr apart ↦
          ap (λ (b : Bool). (nat_lt other k && test other) || (b && test k)) (ne_eqb k other apart) ∙ or-false (nat_lt other k && test other)
          ∙ ap (λ (b : Bool). b && test other) (same_below other apart)
    ]
      where
        same_below : (other : ℕ) → k ≢ other → nat_lt other k ≡ nat_lt other (k + 1)
        same_below other apart = elim (cases_lt other k) [
          | inl below ↦ lt-ltb other k below ∙ sym (lt-ltb other (k + 1) (omega (arith, below)))
          | inr above ↦ le-ltb other k above ∙ sym (le-ltb other (k + 1) (omega (arith, above, apart)))
        ]

pub below_marked_all : (test : ℕ → Bool) (end n : ℕ) (old new : List Bool) → length old ≤ end → end ≤ n → AreAdded (λ other. nat_lt other n && test other) old new → AreAdded test old new
below_marked_all test end n old new few past added = added_same _ _ old new (λ k inside. ap (λ (b : Bool). b && test k) (lt-ltb k n (omega (arith, inside, few, past)))) added
