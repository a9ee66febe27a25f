-- Which rows a node has with one lock more, with one less, and without a client; and which modes they hold.
use Rattle.std.proofs.Common.{◌≡◌, ◌≢◌, ℕ, ◌<◌, inl, inr, List, [], ◌∷◌, length, Option, Some, None, Bool, true, false, refl, sym, ap, subst, arith, ◌∙◌, ◌⊎◌, ◌==◌, not, if◌then◌else◌, IsTrue, Contains, fold, remove, slice_index_or, slice_set, eqb-true, eq-eqb, ne_eqb}
use Rattle.std.proofs.lemmas.List.Elements.{Contains-get_or, Contains-push_cases}
use Rattle.std.proofs.lemmas.List.Quantifiers.{position-Some}
use Rattle.lt_modes.specs.declared.mode.Mode.{Mode}
use Rattle.lt_modes.specs.declared.parts.Row.{Row}
use Rattle.lt_modes.specs.Modes.{Modes, has, no_modes, with_mode, is_of, is_row_of, no_row, one_more, one_less, row_place, gather, add_at, add_lock, take_at, take_lock, without_client, own_modes, other_modes, held_modes}
use Rattle.lt_modes.specs.Serving.{give_up}
use Rattle.lt_modes.proofs.ModeAlgebra.{none_in_none}
use Rattle.lt_law_accounts.proofs.AccountFacts.{has-with_mode, has-kept, has-added, mode_which, mode_at}
use Rattle.lt_lists.proofs.Members.{contains_set, contains_removed, contains_first, contains_later, contains_cases, contains_filtered}

-- a row of these has the client and the mode of this one
pub record Was (rows : List Row) (row : Row) : Type 0 where
  pub old : Row
  pub found : Contains rows old
  pub client : old.client ≡ row.client
  pub mode : old.mode ≡ row.mode

pub was_itself : (rows : List Row) (row : Row) → Contains rows row → Was rows row
was_itself rows row h = record { old = row; found = h; client = refl; mode = refl }

was_before : (former rows : List Row) (row : Row) → ((x : Row) → Contains rows x → Was former x) → Was rows row → Was former row
was_before former rows row h w =
    let before = h w.old w.found in
    record { old = before.old; found = before.found; client = before.client ∙ w.client; mode = before.mode ∙ w.mode }

-- each row was there
abbrev pub AreFewer : List Row → List Row → Type 0
AreFewer former later = (row : Row) → Contains later row → Was former row

-- each row was there or is the client's, of the mode
abbrev pub AreOneMore : ℕ → Mode → List Row → List Row → Type 0
AreOneMore client mode former later = (row : Row) → Contains later row → Was former row ⊎ ((client ≡ row.client) × (mode ≡ row.mode))

-- a row whose count alone was changed was there
recounted : (rows : List Row) (k : ℕ) (new row : Row) → k < length rows → (slice_index_or rows k no_row).client ≡ new.client
    → (slice_index_or rows k no_row).mode ≡ new.mode → Contains (slice_set rows k new) row → Was rows row
recounted rows k new row within client mode h = elim (contains_set rows k new row h) [
  | inl old ↦ was_itself rows row old
  | inr same ↦ record {
    old = slice_index_or rows k no_row;
    found = Contains-get_or rows k no_row within;
    client = client ∙ ap (λ (r : Row). r.client) same;
    mode = mode ∙ ap (λ (r : Row). r.mode) same;
  }
]

pub rows_added : (rows : List Row) (client : ℕ) (mode : Mode) → AreOneMore client mode rows (add_lock rows client mode)
rows_added rows client mode row h = by_place (row_place rows client mode) refl h
  where
    by_place : (place : Option ℕ) → row_place rows client mode ≡ place → Contains (add_at rows client mode place) row
        → Was rows row ⊎ ((client ≡ row.client) × (mode ≡ row.mode))
    by_place None e found = elim (Contains-push_cases rows (record { client = client; mode = mode; count = 1 }) row found) [
      | inl old ↦ inl (was_itself rows row old)
      | inr same ↦ inr (ap (λ (r : Row). r.client) same, ap (λ (r : Row). r.mode) same)
    ]
    by_place (Some k) e found =
        inl (recounted rows k (one_more (slice_index_or rows k no_row)) row (position-Some (is_row_of client mode) rows k no_row e).0 refl refl found)

pub rows_taken : (rows : List Row) (client : ℕ) (mode : Mode) → AreFewer rows (take_lock rows client mode)
rows_taken rows client mode row h = by_place (row_place rows client mode) refl h
  where
    by_count : (k : ℕ) → k < length rows → (last : Bool)
        → Contains (if last then remove rows k else slice_set rows k (one_less (slice_index_or rows k no_row))) row → Was rows row
    by_count k within true found = was_itself rows row (contains_removed rows k row found)
    by_count k within false found = recounted rows k (one_less (slice_index_or rows k no_row)) row within refl refl found

    by_place : (place : Option ℕ) → row_place rows client mode ≡ place → Contains (take_at rows place) row → Was rows row
    by_place None e found = was_itself rows row found
    by_place (Some k) e found =
        by_count k (position-Some (is_row_of client mode) rows k no_row e).0 ((slice_index_or rows k no_row).count == 1) found

pub rows_given_up : (rows : List Row) (client : ℕ) (gives_up : Option Mode) → AreFewer rows (give_up rows client gives_up)
rows_given_up rows client None = was_itself rows
rows_given_up rows client (Some mode) = rows_taken rows client mode

pub rows_dropped : (rows : List Row) (client : ℕ) → AreFewer rows (without_client rows client)
rows_dropped rows client row h = was_itself rows row (contains_filtered (λ (r : Row). not (is_of client r)) rows row h).0

-- one lock more, and perhaps one given up
pub rows_granted : (rows : List Row) (client : ℕ) (mode : Mode) (gives_up : Option Mode)
    → AreOneMore client mode rows (add_lock (give_up rows client gives_up) client mode)
rows_granted rows client mode gives_up row h = elim (rows_added (give_up rows client gives_up) client mode row h) [
  | inl was ↦ inl (was_before rows (give_up rows client gives_up) row (rows_given_up rows client gives_up) was)
  | inr new ↦ inr new
]

-- held modes
pub held-which : (rows : List Row) (mode : Mode) → IsTrue (has mode (held_modes rows)) → (row : Row) × Contains rows row × (row.mode ≡ mode)
held-which rows mode h = mode_which (λ (row : Row). row.mode) rows mode h

pub held-at : (rows : List Row) (row : Row) → Contains rows row → IsTrue (has row.mode (held_modes rows))
held-at rows row h = mode_at (λ (x : Row). x.mode) rows row h

held-was : (rows : List Row) (row : Row) (mode : Mode) → Was rows row → row.mode ≡ mode → IsTrue (has mode (held_modes rows))
held-was rows row mode w e = subst (λ (m : Mode). IsTrue (has m (held_modes rows))) (w.mode ∙ e) (held-at rows w.old w.found)

pub held_fewer : (former later : List Row) → AreFewer former later → (mode : Mode) → IsTrue (has mode (held_modes later)) → IsTrue (has mode (held_modes former))
held_fewer former later fewer mode h =
    let found = held-which later mode h in
    held-was former found.0 mode (fewer found.0 found.1) found.2

pub held_one_more : (client : ℕ) (more : Mode) (former later : List Row) → AreOneMore client more former later
    → (mode : Mode) → IsTrue (has mode (held_modes later)) → IsTrue (has mode (with_mode (held_modes former) more))
held_one_more client more former later one mode h =
    let found = held-which later mode h in
    elim (one found.0 found.1) [
      | inl was ↦ has-kept mode more (held_modes former) (held-was former found.0 mode was found.2)
      | inr new ↦ subst (λ (m : Mode). IsTrue (has m (with_mode (held_modes former) more))) (new.1 ∙ found.2) (has-added more (held_modes former))
    ]

-- the modes of the rows that pass, with those of before
abbrev picked : (Row → Bool) → Modes → List Row → Modes
picked meant from rows = fold (λ modes row. gather (meant row) modes row) from rows

picked-from : (meant : Row → Bool) (from : Modes) (rows : List Row) (mode : Mode) → IsTrue (has mode from) → IsTrue (has mode (picked meant from rows))
picked-from meant from [] mode h = h
picked-from meant from (row ∷ rest) mode h = picked-from meant (gather (meant row) from row) rest mode (by_test (meant row))
  where
    by_test : (own : Bool) → IsTrue (has mode (gather own from row))
    by_test true = has-kept mode row.mode from h
    by_test false = h

picked-at : (meant : Row → Bool) (from : Modes) (rows : List Row) (row : Row) → Contains rows row → meant row ≡ true
    → IsTrue (has row.mode (picked meant from rows))
picked-at meant from [] row h e = absurd (omega (arith, h.1))
picked-at meant from (first ∷ rest) row h e = elim (contains_cases first row rest h) [
  | inl same ↦ picked-from meant (gather (meant first) from first) rest row.mode
      (subst (λ (b : Bool). IsTrue (has row.mode (gather b from first))) (sym (ap meant same ∙ e))
      (subst (λ (m : Mode). IsTrue (has m (with_mode from first.mode))) (ap (λ (r : Row). r.mode) same) (has-added first.mode from)))
  | inr later ↦ picked-at meant (gather (meant first) from first) rest row later e
]

picked-which : (meant : Row → Bool) (from : Modes) (rows : List Row) (mode : Mode) → IsTrue (has mode (picked meant from rows))
    → IsTrue (has mode from) ⊎ ((row : Row) × Contains rows row × (meant row ≡ true) × (row.mode ≡ mode))
picked-which meant from [] mode h = inl h
picked-which meant from (first ∷ rest) mode h =
    elim (picked-which meant (gather (meant first) from first) rest mode h) [
      | inl before ↦ by_test (meant first) refl before
      | inr later ↦ inr (later.0, contains_later first later.0 rest later.1, later.2, later.3)
    ]
  where
    by_test : (own : Bool) → meant first ≡ own → IsTrue (has mode (gather own from first))
        → IsTrue (has mode from) ⊎ ((row : Row) × Contains (first ∷ rest) row × (meant row ≡ true) × (row.mode ≡ mode))
    by_test true e before = elim (has-with_mode mode first.mode from before) [
      | inl old ↦ inl old
      | inr same ↦ inr (first, contains_first first first rest refl, e, same)
    ]
    by_test false e before = inl before

-- an own mode is that of a row of the client
pub own-which : (rows : List Row) (client : ℕ) (mode : Mode) → IsTrue (has mode (own_modes rows client))
    → (row : Row) × Contains rows row × (row.client ≡ client) × (row.mode ≡ mode)
own-which rows client mode h = elim (picked-which (is_of client) no_modes rows mode h) [
  | inl none ↦ none_in_none mode none
  | inr found ↦ (found.0, found.1, eqb-true found.0.client client found.2, found.3)
]

pub own_is_held : (rows : List Row) (client : ℕ) (mode : Mode) → IsTrue (has mode (own_modes rows client)) → IsTrue (has mode (held_modes rows))
own_is_held rows client mode h =
    let found = own-which rows client mode h in
    subst (λ (m : Mode). IsTrue (has m (held_modes rows))) found.3 (held-at rows found.0 found.1)

-- the mode of a row of another client is one of the others'
pub others-at : (rows : List Row) (client : ℕ) (row : Row) → Contains rows row → row.client ≢ client
    → IsTrue (has row.mode (other_modes rows client))
others-at rows client row h differ =
    picked-at (λ (r : Row). not (is_of client r)) no_modes rows row h (ap not (ne_eqb row.client client differ))

-- a mode of the others is that of a row of another client
pub other-which : (rows : List Row) (client : ℕ) (mode : Mode) → IsTrue (has mode (other_modes rows client))
    → (row : Row) × Contains rows row × (row.client ≢ client) × (row.mode ≡ mode)
other-which rows client mode h = elim (picked-which (λ (r : Row). not (is_of client r)) no_modes rows mode h) [
  | inl none ↦ none_in_none mode none
  | inr found ↦ (found.0, found.1, λ same. not_own (found.0.client == client) (eq-eqb found.0.client client same) found.2, found.3)
]
  where
    not_own : {A : Type 0} (t : Bool) → t ≡ true → not t ≡ true → A
    not_own true e f = cc
    not_own false e f = cc
