-- A move of a log is copied.
use Rattle.std.proofs.Common.{◌≡◌, ℕ, zero, suc, ◌<◌, List, [], ◌∷◌, length, take, drop, Some, ap, ◌∙◌, ◌+◌, inl, inr, ◌++◌, false, None, refl, sym, subst, arith, append_assoc, ◌⊎◌, ◌==◌, if◌then◌else◌, IsTrue, filter, Contains, slice_index_or, slice_get, eq-eqb, append-nil, length-append}
use Rattle.std.specs.List.{AllByRecursion}
use Rattle.std.proofs.lemmas.List.Elements.{All-contains, All-from_recursion, recursion_from_All}
use Rattle.lt_modes.specs.declared.moves.Move.{Move}
use Rattle.lt_modes.specs.declared.event.Event.{Event}
use Rattle.lt_modes.specs.declared.stamp.Stamp.{Stamp}
use Rattle.lt_modes.specs.Telling.{is_newer}
use Rattle.lt_modes.proofs.StampOrder.{newer_in_turn}
use Rattle.lt_lists.proofs.Members.{some_equal, all_of, contains_filter, contains_filtered}
use Rattle.lt_lists.proofs.AllLemmas.{all_append, all_weaker}
use Rattle.lt_spec.specs.World.{Logged, is_of_node}
use Rattle.lt_merge.specs.Merging.{made_at, events_at, RunData, IsBefore, AreRising, all_entries, AreLogs, Merges, just_made, with_event, with_events}
use Rattle.lt_merge.proofs.Placing.{stands, placed_same, placed_heads}
use Rattle.lt_merge.specs.declared.heads.Head.{Head}
use Rattle.lt_merge.specs.Heads.{entries_in, rest_of, rests_of, first_stamp, IsHead, IsHeadAt, AreHeads, placed, AreSame, Advances}
use Rattle.lt_merge.proofs.MergedLists.{none_passes}

pub copied : (entries : List Logged) (k : ℕ) (made : Move) (events : List Event) → made_at entries k ≡ Some made → events_at entries k ≡ Some events
    → take 1 (drop k entries) ≡ record { made = made; events = events } ∷ []
copied [] zero made events e f = cc
copied [] (suc k) made events e f = cc
copied (entry ∷ rest) zero made events e f =
    ap (λ (m : Move). record { made = m; events = entry.events } ∷ []) (some_equal entry.made made e)
    ∙ ap (λ (es : List Event). record { made = made; events = es } ∷ []) (some_equal entry.events events f)
copied (entry ∷ rest) (suc k) made events e f = copied rest k made events e f

-- The entry of the first head is taken, and the log's next one stands for the log.

-- a log with these entries
abbrev pub log_with : List Logged → RunData
log_with entries = record { entries = entries; spare = 0; room = 0 }

pub same_merges : (first second : List RunData) (run : List Logged) → AreSame first second → Merges first run → Merges second run
same_merges first second run same h = record {
  order = record { rising = h.order.rising; parts = λ x. h.order.parts x ∙ same.parts x };
  count = h.count ∙ same.count;
}

-- what holds of all entries holds of others that are the same of each node
all_same : (P : Logged → Type 0) (run entries : List Logged) → ((x : ℕ) → filter (is_of_node x) run ≡ filter (is_of_node x) entries) → AllByRecursion P entries → AllByRecursion P run
all_same P run entries same h = recursion_from_All P run (all_of P run holds)
  where
    holds : (entry : Logged) → Contains run entry → P entry
    holds entry among =
        let x = entry.made.stamp.node in
        let here = subst (λ (l : List Logged). Contains l entry) (same x) (contains_filter (is_of_node x) run entry among (eq-eqb x x refl)) in
        All-contains P entries entry (All-from_recursion P entries h) (contains_filtered (is_of_node x) entries entry here).0

-- an entry that is before all others comes first
least_first : (entry : Logged) (rest : List Logged) (others : List RunData) (run : List Logged) → AllByRecursion (IsBefore entry) (rest ++ all_entries others)
    → Merges (log_with rest ∷ others) run → Merges (log_with (entry ∷ rest) ∷ others) (entry ∷ run)
least_first entry rest others run before h = record {
  order = record {
    rising = (all_same (IsBefore entry) run (rest ++ all_entries others) (λ x. h.order.parts x) before, h.order.rising);
    parts = λ x. ap (λ (part : List Logged). if is_of_node x entry then entry ∷ part else part) (h.order.parts x);
  };
  count = omega (arith, h.count);
}

rest_after : (entry : Logged) (entries : List Logged) (stamp : Stamp) → first_stamp entries ≡ Some stamp → IsTrue (is_newer stamp entry.made.stamp) → AreRising entries
    → AllByRecursion (IsBefore entry) entries
rest_after entry [] stamp e newer rising = tt
rest_after entry (first ∷ later) stamp e newer rising =
    let sooner = subst (λ (s : Stamp). IsTrue (is_newer s entry.made.stamp)) (sym (some_equal first.made.stamp stamp e)) newer in (
      sooner,
      all_weaker (IsBefore first) (IsBefore entry)
          (λ (z : Logged) after. newer_in_turn z.made.stamp first.made.stamp entry.made.stamp after sooner) later rising.0,
    )

rests_after : (logs : List RunData) (entry : Logged) (others : List Head) → AllByRecursion (IsHead logs) others
    → AllByRecursion (λ (other : Head). IsTrue (is_newer other.stamp entry.made.stamp)) others → AreLogs (rests_of logs others)
    → AllByRecursion (IsBefore entry) (all_entries (rests_of logs others))
rests_after logs entry [] each newer apart = tt
rests_after logs entry (other ∷ others) each newer apart =
    all_append (IsBefore entry) (rest_of logs other) (all_entries (rests_of logs others))
    (rest_after entry (rest_of logs other) other.stamp each.0 newer.0 apart.0) (rests_after logs entry others each.1 newer.1 apart.2)

pub place_inside : (entries : List Logged) (k : ℕ) (stamp : Stamp) → first_stamp (drop k entries) ≡ Some stamp → k < length entries
place_inside [] zero stamp e = cc
place_inside [] (suc k) stamp e = cc
place_inside (entry ∷ rest) zero stamp e = omega arith
place_inside (entry ∷ rest) (suc k) stamp e = omega (arith, place_inside rest k stamp e)

-- the entries of the head's log after the head
abbrev later_of : List RunData → Head → List Logged
later_of logs head = drop (head.place + 1) (entries_in (slice_get logs head.log))

record Took (logs : List RunData) (head : Head) (others : List Head) : Type 0 where
  apart : AreLogs (log_with (later_of logs head) ∷ rests_of logs others)
  next : (run : List Logged) → Merges (log_with (later_of logs head) ∷ rests_of logs others) run
      → Merges (rests_of logs (head ∷ others)) (take 1 (rest_of logs head) ++ run)
  count : length (all_entries (log_with (later_of logs head) ∷ rests_of logs others)) + 1 ≡ length (all_entries (rests_of logs (head ∷ others)))

took : (logs : List RunData) (head : Head) (others : List Head) → AreHeads logs (head ∷ others) → Took logs head others
took logs head others h =
    let entries = entries_in (slice_get logs head.log) in
    let at = stands entries head.place (place_inside entries head.place head.stamp h.each.0) in
    let stamp : head.stamp ≡ at.first.made.stamp = some_equal head.stamp at.first.made.stamp (sym h.each.0 ∙ ap first_stamp at.here) in
    let rising = subst AreRising at.here h.apart.0 in
    let newer = subst (λ (s : Stamp). AllByRecursion (λ (other : Head). IsTrue (is_newer other.stamp s)) others) stamp h.order.0 in
    let before = all_append (IsBefore at.first) (later_of logs head) (all_entries (rests_of logs others)) rising.0
    (rests_after logs at.first others h.each.1 newer h.apart.2) in
    record {
      apart = (rising.1, (λ x. by_side at.first x (ap (λ (l : List Logged). filter (is_of_node x) l) at.here) (h.apart.1 x)), h.apart.2);
      next = λ run merged. subst (λ (l : List Logged). Merges (log_with l ∷ rests_of logs others) (take 1 l ++ run)) (sym at.here)
          (least_first at.first (later_of logs head) (rests_of logs others) run before merged);
      count = omega (
        arith,
        ap length at.here,
        length-append (later_of logs head) (all_entries (rests_of logs others)),
        length-append (rest_of logs head) (all_entries (rests_of logs others)),
      );
    }
  where
    by_side : (entry : Logged) (x : ℕ) → filter (is_of_node x) (rest_of logs head) ≡ filter (is_of_node x) (entry ∷ later_of logs head)
        → (filter (is_of_node x) (rest_of logs head) ≡ []) ⊎ (filter (is_of_node x) (all_entries (rests_of logs others)) ≡ [])
        → (filter (is_of_node x) (later_of logs head) ≡ []) ⊎ (filter (is_of_node x) (all_entries (rests_of logs others)) ≡ [])
    by_side entry x here (inl none) = inl (none_passes (is_of_node x) entry (later_of logs head) (sym here ∙ none)).1
    by_side entry x here (inr none) = inr none

pub advanced : (logs : List RunData) (head next : Head) (others : List Head) → AreHeads logs (head ∷ others) → IsHeadAt logs head.log (head.place + 1) (Some next)
    → Advances logs head (head ∷ others) (placed next others)
advanced logs head next others h at =
    let taken = took logs head others h in
    let same : rest_of logs next ≡ later_of logs head =
    ap (λ (n : ℕ). drop next.place (entries_in (slice_get logs n))) at.1 ∙ ap (λ (n : ℕ). drop n (entries_in (slice_get logs head.log))) at.2 in
    let apart : AreLogs (rests_of logs (next ∷ others)) = subst (λ (l : List Logged). AreLogs (log_with l ∷ rests_of logs others)) (sym same) taken.apart in
    let moved = placed_same logs next others apart in
    record {
      are_heads = placed_heads logs next others (at.0, h.each.1) apart h.order.1;
      next = λ run merged. taken.next run (subst (λ (l : List Logged). Merges (log_with l ∷ rests_of logs others) run) same
          (same_merges (rests_of logs (placed next others)) (rests_of logs (next ∷ others)) run moved merged));
      count = omega (arith, moved.count, taken.count, ap (λ (l : List Logged). length (l ++ all_entries (rests_of logs others))) same);
    }

pub ended : (logs : List RunData) (head : Head) (others : List Head) → AreHeads logs (head ∷ others) → IsHeadAt logs head.log (head.place + 1) None
    → Advances logs head (head ∷ others) others
ended logs head others h none =
    let taken = took logs head others h in
    record {
      are_heads = record { each = h.each.1; order = h.order.1; apart = h.apart.2 };
      next = λ run merged. taken.next run (subst (λ (l : List Logged). Merges (log_with l ∷ rests_of logs others) run) (sym none)
          (record { order = record { rising = merged.order.rising; parts = λ x. merged.order.parts x }; count = merged.count }));
      count = omega (arith, taken.count, ap (λ (l : List Logged). length (l ++ all_entries (rests_of logs others))) none);
    }

pub stamp_at : (entries : List Logged) (k : ℕ) (made : Move) → made_at entries k ≡ Some made → first_stamp (drop k entries) ≡ Some made.stamp
stamp_at [] zero made e = cc
stamp_at [] (suc k) made e = cc
stamp_at (entry ∷ rest) zero made e = ap (λ (m : Move). Some m.stamp) (some_equal entry.made made e)
stamp_at (entry ∷ rest) (suc k) made e = stamp_at rest k made e

-- the first move is one of its log
pub first_inside : (logs : List RunData) (head : Head) (others : List Head) → AreHeads logs (head ∷ others) → head.place < length (entries_in (slice_get logs head.log))
first_inside logs head others h = place_inside (entries_in (slice_get logs head.log)) head.place head.stamp h.each.0

pub log_inside : (logs : List RunData) (k place : ℕ) → place < length (entries_in (slice_get logs k)) → k < length logs
log_inside [] zero place h = absurd (omega (arith, h))
log_inside [] (suc k) place h = absurd (omega (arith, h))
log_inside (log ∷ logs) zero place h = omega arith
log_inside (log ∷ logs) (suc k) place h = omega (arith, log_inside logs k place h)

pub first_and_others : (heads : List Head) (head : Head) → 0 < length heads → head ≡ slice_index_or heads 0 head → heads ≡ head ∷ drop 1 heads
first_and_others [] head some e = absurd (omega (arith, some))
first_and_others (first ∷ others) head some e = ap (λ (h : Head). h ∷ others) (sym e)

none_left : (logs : List RunData) (heads : List Head) → length heads ≡ 0 → Merges (rests_of logs heads) []
none_left logs [] e = record { order = record { rising = tt; parts = λ x. refl }; count = refl }
none_left logs (head ∷ heads) e = absurd (omega (arith, e))

pub not_empty : (count : ℕ) → (count == 0) ≡ false → 0 < count
not_empty zero e = cc
not_empty (suc count) e = omega arith

-- the head that stands first is inside its log
pub head_inside : (logs : List RunData) (heads : List Head) (head : Head) → AreHeads logs heads → 0 < length heads → head ≡ slice_index_or heads 0 head
    → head.place < length (entries_in (slice_get logs head.log))
head_inside logs heads head h some e = first_inside logs head (drop 1 heads) (subst (AreHeads logs) (first_and_others heads head some e) h)

-- where no log has a move left, all are merged
pub all_taken : (logs : List RunData) (heads : List Head) (taken : List Logged) → length heads ≡ 0
    → ((run : List Logged) → Merges (rests_of logs heads) run → Merges logs (taken ++ run)) → Merges logs taken
all_taken logs heads taken e more = subst (Merges logs) (append-nil taken) (more [] (none_left logs heads e))

-- A run after a move and its events.

pub length-with_event : (entries : List Logged) (event : Event) → length (with_event entries event) ≡ length entries
length-with_event [] event = refl
length-with_event (entry ∷ []) event = refl
length-with_event (entry ∷ next ∷ later) event = omega (arith, length-with_event (next ∷ later) event)

with_event-push : (entries : List Logged) (entry : Logged) (event : Event)
    → with_event (entries ++ entry ∷ []) event ≡ entries ++ record entry { events = entry.events ++ event ∷ [] } ∷ []
with_event-push [] entry event = refl
with_event-push (first ∷ []) entry event = refl
with_event-push (first ∷ next ∷ later) entry event = ap (λ (es : List Logged). first ∷ es) (with_event-push (next ∷ later) entry event)

with_events-push : (entries : List Logged) (entry : Logged) (events : List Event)
    → with_events (entries ++ entry ∷ []) events ≡ entries ++ record entry { events = entry.events ++ events } ∷ []
with_events-push entries entry [] = rw (append-nil entry.events) refl
with_events-push entries entry (event ∷ events) =
    ap (λ es. with_events es events) (with_event-push entries entry event)
    ∙ (with_events-push entries (record entry { events = entry.events ++ event ∷ [] }) events
    ∙ ap (λ (es : List Event). entries ++ record entry { events = es } ∷ []) (append_assoc entry.events (event ∷ []) events))

-- a move that is pushed and then gets its events
pub pushed : (entries : List Logged) (made : Move) (events : List Event)
    → with_events (entries ++ just_made made ∷ []) events ≡ entries ++ record { made = made; events = events } ∷ []
pushed entries made events = with_events-push entries (just_made made) events
