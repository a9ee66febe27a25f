-- Which lines are among the closing lines.
use Rattle.std.proofs.Common.{◌≡◌, ◌≢◌, ℕ, zero, suc, ◌<◌, inl, inr, List, [], ◌∷◌, ◌++◌, length, Option, Some, None, Bool, true, false, refl, sym, ap, subst, arith, ◌∙◌, take, ◌⊎◌, ◌==◌, if◌then◌else◌, Contains, slice_index, flat_map, ne_eqb, take_all}
use Rattle.std.proofs.lemmas.Bool.{cases_eq, eqb-false}
use Rattle.std.proofs.lemmas.List.Elements.{Contains-append_left, Contains-append_right, Contains-append_cases}
use Rattle.lt_modes.specs.declared.mode.Mode.{Mode}
use Rattle.lt_modes.specs.declared.mode.Mode.TheVariants.{IntentionRead}
use Rattle.lt_modes.specs.declared.event.Event.{Event}
use Rattle.lt_modes.specs.declared.parts.Link.{Link}
use Rattle.lt_modes.specs.Script.{ScriptData}
use Rattle.lt_modes.proofs.ModeAlgebra.{in_order}
use Rattle.lt_modes.specs.Modes.{modes_in_order}
use Rattle.lt_lists.proofs.Members.{contains_first, contains_cases}
use Rattle.lt_spec.specs.Holdings.{Holding, holding, holdings, times_held, wanted, owner_of, lines_of}
use Rattle.lt_spec.specs.World.{Logged, world_after, IsRun}
use Rattle.lt_spec.specs.NodeMove.{IsWhole}
use Rattle.lt_journal.specs.declared.line.Line.{Line}
use Rattle.lt_journal.specs.declared.line.Line.TheVariants.{Held, Waiting, Owner, End}
use Rattle.lt_journal.specs.RunLines.{lines_below, held_line, held_in_mode, held_in_set, held_by, held_lines, waiting_line, waiting_lines, owner_line, owner_lines, rest_lines}
use Rattle.lt_model.specs.Invariant.{LinesKept}
use Rattle.lt_law_lines.specs.LineLaws.{IsLastMove}
use Rattle.lt_law_lines.proofs.KeptLines.{lines_kept_in_runs}
use Rattle.lt_law_lines.proofs.OwnerRuns.{lines_tell_owners, WaitsTold, waits_in_runs}
use Rattle.lt_law_journals.specs.ClosingLaws.{HeldLinesTell, WaitingLinesTell, OwnerLinesTell}

-- the line is of this kind: 0 a lock held, 1 a client that waits, 2 an owner, 3 another one
abbrev kind_of : Line → ℕ
kind_of (Held client s mode count) = 0
kind_of (Waiting client s mode) = 1
kind_of (Owner s node epoch) = 2
kind_of other = 3

only_one : {X : Type 0} (x y : X) → Contains (x ∷ []) y → x ≡ y
only_one x y h = elim (contains_cases x y [] h) [
  | inl same ↦ same
  | inr none ↦ absurd (omega (arith, none.1))
]

below_which : (n : ℕ) (f : ℕ → List Line) (x : Line) → Contains (lines_below n f) x → (k : ℕ) × (k < n) × Contains (f k) x
below_which zero f x h = absurd (omega (arith, h.1))
below_which (suc n) f x h = elim (Contains-append_cases (lines_below n f) (f n) x h) [
  | inl before ↦ let found = below_which n f x before in (found.0, omega (arith, found.1), found.2)
  | inr here ↦ (n, omega arith, here)
]

below_at : (n : ℕ) (f : ℕ → List Line) (x : Line) (k : ℕ) → k < n → Contains (f k) x → Contains (lines_below n f) x
below_at zero f x k below h = absurd (omega (arith, below))
below_at (suc n) f x k below h = elim (cases_eq k n) [
  | inl e ↦ Contains-append_right (lines_below n f) (f n) x (subst (λ (i : ℕ). Contains (f i) x) e h)
  | inr d ↦ Contains-append_left (lines_below n f) (f n) x (below_at n f x k (omega (arith, below, d)) h)
]

modes_which : (f : Mode → List Line) (modes : List Mode) (x : Line) → Contains (flat_map f modes) x → (mode : Mode) × Contains (f mode) x
modes_which f [] x h = absurd (omega (arith, h.1))
modes_which f (mode ∷ rest) x h = elim (Contains-append_cases (f mode) (flat_map f rest) x h) [
  | inl here ↦ (mode, here)
  | inr later ↦ modes_which f rest x later
]

modes_at : (f : Mode → List Line) (modes : List Mode) (x : Line) (mode : Mode) → Contains modes mode → Contains (f mode) x → Contains (flat_map f modes) x
modes_at f [] x mode there h = absurd (omega (arith, there.1))
modes_at f (first ∷ rest) x mode there h = elim (contains_cases first mode rest there) [
  | inl same ↦ Contains-append_left (f first) (flat_map f rest) x (subst (λ (m : Mode). Contains (f m) x) (sym same) h)
  | inr later ↦ Contains-append_right (f first) (flat_map f rest) x (modes_at f rest x mode later h)
]

-- what a `held` line says
abbrev count_in : Line → ℕ
count_in (Held client s mode count) = count
count_in other = 0

abbrev lock_in : Line → Holding
lock_in (Held client s mode count) = holding client s mode
lock_in (Waiting client s mode) = holding client s mode
lock_in other = holding 0 0 IntentionRead

abbrev owner_in : Line → Link
owner_in (Owner s node epoch) = record { node = node; epoch = epoch }
owner_in other = record { node = 0; epoch = 0 }

abbrev set_in : Line → ℕ
set_in (Owner s node epoch) = s
set_in other = 0

held_line-which : (lock : Holding) (n : ℕ) (x : Line) → Contains (held_line lock n) x → (n ≢ 0) × (Held lock.client lock.set lock.mode n ≡ x)
held_line-which lock n x h = by_none (n == 0) refl h
  where
    by_none : (none : Bool) → (n == 0) ≡ none → Contains (if none then [] else Held lock.client lock.set lock.mode n ∷ []) x → (n ≢ 0) × (Held lock.client lock.set lock.mode n ≡ x)
    by_none true e found = absurd (omega (arith, found.1))
    by_none false e found = (eqb-false n 0 e, only_one (Held lock.client lock.set lock.mode n) x found)

held_which : (script : ScriptData) (held : List Holding) (client s : ℕ) (mode : Mode) (count : ℕ) → Contains (held_lines script held) (Held client s mode count)
    → (0 < count) × (times_held held (holding client s mode) ≡ count)
held_which script held client s mode count h =
    let line = Held client s mode count in
    let at_client = below_which (length script.clients) (held_by script held) line h in
    let at_set = below_which (length script.sets) (held_in_set held at_client.0) line at_client.2 in
    let at_mode = modes_which (held_in_mode held at_client.0 at_set.0) modes_in_order line at_set.2 in
    let lock = holding at_client.0 at_set.0 at_mode.0 in
    let found = held_line-which lock (times_held held lock) line at_mode.1 in
    let same : times_held held lock ≡ count = ap count_in found.1 in
    (omega (arith, found.0, same), ap (λ (k : Holding). times_held held k) (sym (ap lock_in found.1)) ∙ same)

held_at : (script : ScriptData) (held : List Holding) (client s : ℕ) (mode : Mode) (count : ℕ) → client < length script.clients → s < length script.sets
    → 0 < count → times_held held (holding client s mode) ≡ count → Contains (held_lines script held) (Held client s mode count)
held_at script held client s mode count known below some same =
    below_at (length script.clients) (held_by script held) (Held client s mode count) client known
    (below_at (length script.sets) (held_in_set held client) (Held client s mode count) s below
    (modes_at (held_in_mode held client s) modes_in_order (Held client s mode count) mode (in_order mode)
    (subst (λ (n : ℕ). Contains (held_line (holding client s mode) n) (Held client s mode count)) (sym same) here)))
  where
    here : Contains (held_line (holding client s mode) count) (Held client s mode count)
    here = subst (λ (none : Bool). Contains (if none then [] else Held client s mode count ∷ []) (Held client s mode count)) (sym (ne_eqb count 0 (λ e. omega (arith, e, some))))
        (contains_first (Held client s mode count) (Held client s mode count) [] refl)

waiting_line-which : (lock : Option Holding) (x : Line) → Contains (waiting_line lock) x → (k : Holding) × (lock ≡ Some k) × (Waiting k.client k.set k.mode ≡ x)
waiting_line-which None x h = absurd (omega (arith, h.1))
waiting_line-which (Some k) x h = (k, refl, only_one (Waiting k.client k.set k.mode) x h)

-- lines of one kind
abbrev AreOf : ℕ → List Line → Type 0
AreOf kind lines = (x : Line) → Contains lines x → kind_of x ≡ kind

held_kind : (script : ScriptData) (held : List Holding) → AreOf 0 (held_lines script held)
held_kind script held x h =
    let at_client = below_which (length script.clients) (held_by script held) x h in
    let at_set = below_which (length script.sets) (held_in_set held at_client.0) x at_client.2 in
    let at_mode = modes_which (held_in_mode held at_client.0 at_set.0) modes_in_order x at_set.2 in
    let lock = holding at_client.0 at_set.0 at_mode.0 in
    ap kind_of (sym (held_line-which lock (times_held held lock) x at_mode.1).1)

waiting_kind : (script : ScriptData) (waits_for : ℕ → Option Holding) → AreOf 1 (waiting_lines script waits_for)
waiting_kind script waits_for x h =
    let at_client = below_which (length script.clients) (λ client. waiting_line (waits_for client)) x h in
    ap kind_of (sym (waiting_line-which (waits_for at_client.0) x at_client.2).2)

owner_kind : (script : ScriptData) (owner : ℕ → Link) → AreOf 2 (owner_lines script owner)
owner_kind script owner x h =
    let at_set = below_which (length script.sets) (λ set. owner_line set (owner set)) x h in
    ap kind_of (sym (only_one (Owner at_set.0 (owner at_set.0).node (owner at_set.0).epoch) x at_set.2))

-- in which part of the lines at rest a line stands
parts : (script : ScriptData) (events : List Event) (moves : ℕ) (x : Line) → Contains (rest_lines script events moves) x
    → Contains (held_lines script (holdings script events)) x ⊎ (Contains (waiting_lines script (λ client. wanted client events)) x
    ⊎ (Contains (owner_lines script (λ set. owner_of set events)) x ⊎ (kind_of x ≡ 3)))
parts script events moves x h = elim (Contains-append_cases ((held ++ waiting) ++ owners) (End moves ∷ []) x h) [
  | inr last ↦ inr (inr (inr (ap kind_of (sym (only_one (End moves) x last)))))
  | inl before ↦ elim (Contains-append_cases (held ++ waiting) owners x before) [
    | inr found ↦ inr (inr (inl found))
    | inl first ↦ elim (Contains-append_cases held waiting x first) [
      | inl found ↦ inl found
      | inr found ↦ inr (inl found)
    ]
  ]
]
  where
    held : List Line
    held = held_lines script (holdings script events)

    waiting : List Line
    waiting = waiting_lines script (λ client. wanted client events)

    owners : List Line
    owners = owner_lines script (λ set. owner_of set events)

pub held_among : (script : ScriptData) (events : List Event) (moves client s : ℕ) (mode : Mode) (count : ℕ) → Contains (rest_lines script events moves) (Held client s mode count)
    → (0 < count) × (times_held (holdings script events) (holding client s mode) ≡ count)
held_among script events moves client s mode count h = elim (parts script events moves (Held client s mode count) h) [
  | inl found ↦ held_which script (holdings script events) client s mode count found
  | inr others ↦ elim others [
    | inl found ↦ absurd (omega (arith, waiting_kind script (λ c. wanted c events) (Held client s mode count) found))
    | inr more ↦ elim more [
      | inl found ↦ absurd (omega (arith, owner_kind script (λ k. owner_of k events) (Held client s mode count) found))
      | inr found ↦ absurd (omega (arith, found))
    ]
  ]
]

pub among_held : (script : ScriptData) (events : List Event) (moves client s : ℕ) (mode : Mode) (count : ℕ) → client < length script.clients → s < length script.sets
    → 0 < count → times_held (holdings script events) (holding client s mode) ≡ count → Contains (rest_lines script events moves) (Held client s mode count)
among_held script events moves client s mode count known below some same =
    Contains-append_left _ (End moves ∷ []) _ (Contains-append_left _ (owner_lines script (λ set. owner_of set events)) _
    (Contains-append_left _ (waiting_lines script (λ c. wanted c events)) _ (held_at script (holdings script events) client s mode count known below some same)))

pub waiting_among : (script : ScriptData) (events : List Event) (moves client s : ℕ) (mode : Mode) → Contains (rest_lines script events moves) (Waiting client s mode)
    → (c : ℕ) × (c < length script.clients) × (wanted c events ≡ Some (holding client s mode))
waiting_among script events moves client s mode h = elim (parts script events moves (Waiting client s mode) h) [
  | inl found ↦ absurd (omega (arith, held_kind script (holdings script events) (Waiting client s mode) found))
  | inr others ↦ elim others [
    | inl found ↦
        let at_client = below_which (length script.clients) (λ c. waiting_line (wanted c events)) (Waiting client s mode) found in
        let line = waiting_line-which (wanted at_client.0 events) (Waiting client s mode) at_client.2 in
        (at_client.0, at_client.1, line.1 ∙ ap Some (ap lock_in line.2))
    | inr more ↦ elim more [
      | inl found ↦ absurd (omega (arith, owner_kind script (λ k. owner_of k events) (Waiting client s mode) found))
      | inr found ↦ absurd (omega (arith, found))
    ]
  ]
]

pub among_waiting : (script : ScriptData) (events : List Event) (moves client s : ℕ) (mode : Mode) → client < length script.clients → wanted client events ≡ Some (holding client s mode)
    → Contains (rest_lines script events moves) (Waiting client s mode)
among_waiting script events moves client s mode known wants =
    Contains-append_left _ (End moves ∷ []) _ (Contains-append_left _ (owner_lines script (λ set. owner_of set events)) _
    (Contains-append_right (held_lines script (holdings script events)) _ _
    (below_at (length script.clients) (λ c. waiting_line (wanted c events)) (Waiting client s mode) client known
    (subst (λ (lock : Option Holding). Contains (waiting_line lock) (Waiting client s mode)) (sym wants) (contains_first (Waiting client s mode) (Waiting client s mode) [] refl)))))

pub owner_among : (script : ScriptData) (events : List Event) (moves s node epoch : ℕ) → Contains (rest_lines script events moves) (Owner s node epoch)
    → owner_of s events ≡ record { node = node; epoch = epoch }
owner_among script events moves s node epoch h = elim (parts script events moves (Owner s node epoch) h) [
  | inl found ↦ absurd (omega (arith, held_kind script (holdings script events) (Owner s node epoch) found))
  | inr others ↦ elim others [
    | inl found ↦ absurd (omega (arith, waiting_kind script (λ c. wanted c events) (Owner s node epoch) found))
    | inr more ↦ elim more [
      | inl found ↦
          let at_set = below_which (length script.sets) (λ k. owner_line k (owner_of k events)) (Owner s node epoch) found in
          let line = only_one (Owner at_set.0 (owner_of at_set.0 events).node (owner_of at_set.0 events).epoch) (Owner s node epoch) at_set.2 in
          ap (λ (k : ℕ). owner_of k events) (sym (ap set_in line)) ∙ ap owner_in line
      | inr found ↦ absurd (omega (arith, found))
    ]
  ]
]

pub among_owners : (script : ScriptData) (events : List Event) (moves s : ℕ) → s < length script.sets
    → Contains (rest_lines script events moves) (Owner s (owner_of s events).node (owner_of s events).epoch)
among_owners script events moves s below =
    let line = Owner s (owner_of s events).node (owner_of s events).epoch in
    Contains-append_left _ (End moves ∷ []) _
    (Contains-append_right (held_lines script (holdings script events) ++ waiting_lines script (λ c. wanted c events)) _ _
    (below_at (length script.sets) (λ k. owner_line k (owner_of k events)) line s below (contains_first line line [] refl)))

-- The closing lines of a run tell what its nodes know.

-- of all prefixes of a run the longest is the run
whole_run : (run : List Logged) → take (length run) run ≡ run
whole_run run = take_all (length run) run (omega arith)

kept_at_end : (script : ScriptData) (run : List Logged) → IsWhole script → IsRun script run → LinesKept script (lines_of run) (world_after script run)
kept_at_end script run whole is_run =
    subst (λ (r : List Logged). LinesKept script (lines_of r) (world_after script r)) (whole_run run) (lines_kept_in_runs script run whole is_run (length run))

told_at_end : (script : ScriptData) (run : List Logged) → IsWhole script → IsRun script run → WaitsTold script (lines_of run) (world_after script run)
told_at_end script run whole is_run =
    subst (λ (r : List Logged). WaitsTold script (lines_of r) (world_after script r)) (whole_run run) (waits_in_runs script run whole is_run (length run))

pub held_lines_tell : HeldLinesTell
held_lines_tell script run whole is_run client s mode count known below =
    let held = (kept_at_end script run whole is_run).held client s mode known below in (
      λ there. let found = held_among script (lines_of run) (length run) client s mode count there in (found.0, sym held ∙ found.1),
      λ h. among_held script (lines_of run) (length run) client s mode count known below h.0 (held ∙ h.1),
    )

pub waiting_lines_tell : WaitingLinesTell
waiting_lines_tell script run whole is_run client s mode known below =
    let waits = (kept_at_end script run whole is_run).waits client s mode known below in (
      λ there.
          let found = waiting_among script (lines_of run) (length run) client s mode there in
          let own : client ≡ found.0 = ((told_at_end script run whole is_run found.0 found.1).says (holding client s mode) found.2).0 in
          waits.0 (subst (λ (c : ℕ). wanted c (lines_of run) ≡ Some (holding client s mode)) (sym own) found.2),
      λ h. among_waiting script (lines_of run) (length run) client s mode known (waits.1 h),
    )

-- a token has one last move
one_last : (went : List ℕ) (a b : Link) → IsLastMove went a → IsLastMove went b → a ≡ b
one_last went a b ha hb =
    let epochs : a.epoch ≡ b.epoch = omega (arith, ha.0, hb.0) in
    let nodes : a.node ≡ b.node = sym ha.1 ∙ ap (slice_index went) epochs ∙ hb.1 in
    λ i. record { node = nodes i; epoch = epochs i }

pub owner_lines_tell : OwnerLinesTell
owner_lines_tell script run whole is_run s owner below = (
  λ there. subst (IsLastMove ((world_after script run).went s)) (owner_among script (lines_of run) (length run) s owner.node owner.epoch there) last,
  λ h. subst (λ (o : Link). Contains (rest_lines script (lines_of run) (length run)) (Owner s o.node o.epoch)) (one_last ((world_after script run).went s) (owner_of s (lines_of run)) owner last h)
      (among_owners script (lines_of run) (length run) s below),
)
  where
    last : IsLastMove ((world_after script run).went s) (owner_of s (lines_of run))
    last = subst (λ (r : List Logged). IsLastMove ((world_after script r).went s) (owner_of s (lines_of r))) (whole_run run) (lines_tell_owners script run whole is_run (length run) s below)
