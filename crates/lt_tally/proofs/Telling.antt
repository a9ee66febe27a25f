-- What one turn of a loop adds to the events done so far.
use Rattle.std.proofs.Common.{◌≡◌, ℕ, zero, suc, ◌+◌, ◌<◌, List, [], ◌∷◌, ◌++◌, length, take, get_or, Some, refl, sym, ap, ◌∙◌, arith, ◌≤◌, Bool, true, false, fold, filter, Option, None, length-append, length-drop, subst, inl, inr, set, get_or-set_same, get_or-set_other, length-set, append_assoc, length-take, not, position, Result, Ok, Err, OnErr, slice_set, ◌==◌, if◌then◌else◌, eq-eqb, ne_eqb}
use Rattle.std.proofs.lemmas.List.{take_more}
use Rattle.std.proofs.lemmas.List.Sums.{length-filter, count_by-le-length, fold-append}
use Rattle.std.proofs.lemmas.Bool.{cases_eq}
use Rattle.lt_modes.specs.declared.event.Event.{Event}
use Rattle.lt_modes.specs.declared.event.Event.TheVariants.{Grant, Try, Unlock, Change, DropAll, Wait, Withdrawn, Token}
use Rattle.lt_modes.specs.Script.{ScriptData}
use Rattle.lt_modes.specs.declared.mode.Mode.{Mode}
use Rattle.lt_modes.specs.declared.parts.Link.{Link}
use Rattle.lt_spec.specs.World.{Logged}
use Rattle.lt_spec.specs.Holdings.{lines_of, Holding, holding, without_one, without_holding, is_dropped, same_holding, after_line, holdings, wanted, wanted_after, owner_of, owner_after}
use Rattle.lt_merge.specs.Merging.{events_at}
use Rattle.lt_tally.specs.LockTable.{Table, Counts, Tally, IsTallied, waited_for, owner_at}

append_nil : {X : Type 0} (xs : List X) → xs ++ [] ≡ xs
append_nil [] = refl
append_nil {X} (x ∷ xs) = ap (λ (ys : List X). x ∷ ys) (append_nil xs)

-- these items up to one after some others, and the next
pub one_more : {X : Type 0} (before xs : List X) (i : ℕ) (x : X) → x ≡ get_or xs i x → i < length xs → (before ++ take i xs) ++ x ∷ [] ≡ before ++ take (i + 1) xs
one_more {X} before xs i x e h =
    ap (λ (y : X). (before ++ take i xs) ++ y ∷ []) e
    ∙ (append_assoc before (take i xs) (get_or xs i x ∷ [])
    ∙ ap (λ (ys : List X). before ++ ys) (sym (take_more xs i x h)))

lines_of-take : (entries : List Logged) (k : ℕ) (events : List Event) → events_at entries k ≡ Some events → lines_of (take (suc k) entries) ≡ lines_of (take k entries) ++ events
lines_of-take [] k events f = cc
lines_of-take (entry ∷ later) zero events f =
    let same : entry.events ≡ events = cc in
    append_nil entry.events ∙ same
lines_of-take (entry ∷ later) (suc k) events f =
    ap (λ (es : List Event). entry.events ++ es) (lines_of-take later k events f)
    ∙ sym (append_assoc entry.events (lines_of (take k later)) events)

-- the events of the moves up to this one, and of this one
pub lines_of-more : (entries : List Logged) (k : ℕ) (events : List Event) → events_at entries k ≡ Some events → lines_of (take k entries) ++ events ≡ lines_of (take (k + 1) entries)
lines_of-more entries k events f =
    let one : suc k ≡ k + 1 = omega arith in
    sym (lines_of-take entries k events f) ∙ ap (λ (n : ℕ). lines_of (take n entries)) one

-- No more locks are held than events were made.

length-without_at : (held : List Holding) (place : Option ℕ) → length (without_holding held place) ≤ length held
length-without_at held None = omega arith
length-without_at held (Some k) = omega (arith, length-append {A = Holding}, length-take k held, length-drop (suc k) held)

pub length-without : (held : List Holding) (lock : Holding) → length (without_one held lock) ≤ length held
length-without held lock = length-without_at held (position (same_holding lock) held)

pub length-kept : (script : ScriptData) (client lock_set : ℕ) (held : List Holding) → length (filter (λ lock. not (is_dropped script client lock_set lock)) held) ≤ length held
length-kept script client lock_set held =
    let kept : Holding → Bool = λ lock. not (is_dropped script client lock_set lock) in
    omega (arith, length-filter kept held, count_by-le-length kept held)

held_after : (script : ScriptData) (held : List Holding) (event : Event) → length (after_line script held event) ≤ length held + 1
held_after script held (Grant client lock_set mode) = omega (arith, length-append {A = Holding})
held_after script held (Try client lock_set mode true) = omega (arith, length-append {A = Holding})
held_after script held (Try client lock_set mode false) = omega arith
held_after script held (Unlock client lock_set mode) = omega (arith, length-without held (holding client lock_set mode))
held_after script held (Change client lock_set gives_up mode) =
    omega (arith, length-append {A = Holding}, length-without held (holding client lock_set gives_up))
held_after script held (DropAll client other lock_set count) = omega (arith, length-kept script other lock_set held)
held_after script held other = omega arith

held_after_all : (script : ScriptData) (held : List Holding) (events : List Event) → length (fold (after_line script) held events) ≤ length held + length events
held_after_all script held [] = omega arith
held_after_all script held (event ∷ later) =
    omega (arith, held_after script held event, held_after_all script (after_line script held event) later)

-- no more locks are held than there are events
pub few_held : (script : ScriptData) (events : List Event) → length (holdings script events) ≤ length events
few_held script events = omega (arith, held_after_all script [] events)

lines_of-part : (entries : List Logged) (k : ℕ) → length (lines_of (take k entries)) ≤ length (lines_of entries)
lines_of-part [] zero = omega arith
lines_of-part [] (suc k) = omega arith
lines_of-part (entry ∷ later) zero = omega arith
lines_of-part (entry ∷ later) (suc k) =
    omega (arith, length-append entry.events (lines_of (take k later)), length-append entry.events (lines_of later), lines_of-part later k)

-- the events of one move, and those before it, are among all
pub events_up_to : (entries : List Logged) (k : ℕ) (events : List Event) → events_at entries k ≡ Some events
    → length (lines_of (take k entries)) + length events ≤ length (lines_of entries)
events_up_to entries k events e =
    let more = ap (λ (all : List Event). length all) (lines_of-more entries k events e) in
    omega (arith, lines_of-part entries (k + 1), length-append (lines_of (take k entries)) events)

-- what holds in any case holds on an error
pub on_err : {T E P : Type 0} (result : Result T E) → P → OnErr result P
on_err (Ok value) p = tt
on_err (Err error) p = p

-- What a tally tells after one event more.

-- the list after one event more
abbrev pub waiting_after : List (Option Holding) → Event → List (Option Holding)
waiting_after waiting (Grant client s mode) = slice_set waiting client None
waiting_after waiting (Wait client s mode) = slice_set waiting client (Some (holding client s mode))
waiting_after waiting (Change client s gives_up mode) = slice_set waiting client None
waiting_after waiting (Withdrawn client s mode) = slice_set waiting client None
waiting_after waiting other = waiting

abbrev pub owners_after : List Link → Event → List Link
owners_after owners (Token s to epoch) = slice_set owners s (record { node = to; epoch = epoch })
owners_after owners other = owners

-- after a write at one place, what stands at another
written : {X : Type 0} (xs : List X) (place k : ℕ) (x d : X) → k < length xs → get_or (set xs place x) k d ≡ (if place == k then x else get_or xs k d)
written {X} xs place k x d inside = elim (cases_eq place k) [
  | inl equal ↦ rw (eq-eqb place k equal) (subst (λ (at : ℕ). get_or (set xs at x) k d ≡ x) (sym equal) (get_or-set_same xs k x d inside))
  | inr apart ↦ rw (ne_eqb place k apart) (get_or-set_other xs place k x d (λ e. apart (sym e)))
]

waits_next : (waiting : List (Option Holding)) (client : ℕ) (event : Event) → client < length waiting → waited_for (waiting_after waiting event) client ≡ wanted_after client (waited_for waiting client) event
waits_next waiting client (Grant c s mode) inside = written waiting c client None None inside
waits_next waiting client (Wait c s mode) inside = written waiting c client (Some (holding c s mode)) None inside
waits_next waiting client (Change c s gives_up mode) inside = written waiting c client None None inside
waits_next waiting client (Withdrawn c s mode) inside = written waiting c client None None inside
waits_next waiting client other inside = refl

owner_next : (owners : List Link) (s : ℕ) (event : Event) → s < length owners → owner_at (owners_after owners event) s ≡ owner_after s (owner_at owners s) event
owner_next owners s (Token t to epoch) inside = written owners t s (record { node = to; epoch = epoch }) (record { node = 0; epoch = 0 }) inside
owner_next owners s other inside = refl

length-waiting : (waiting : List (Option Holding)) (event : Event) → length (waiting_after waiting event) ≡ length waiting
length-waiting waiting (Grant c s mode) = length-set waiting c None
length-waiting waiting (Wait c s mode) = length-set waiting c (Some (holding c s mode))
length-waiting waiting (Change c s gives_up mode) = length-set waiting c None
length-waiting waiting (Withdrawn c s mode) = length-set waiting c None
length-waiting waiting other = refl

length-owners : (owners : List Link) (event : Event) → length (owners_after owners event) ≡ length owners
length-owners owners (Token s to epoch) = length-set owners s (record { node = to; epoch = epoch })
length-owners owners other = refl

-- a tally that tells some events tells one more once it counts the locks after it
pub tells_next : (script : ScriptData) (tally : Tally) (events : List Event) (event : Event) (table : Table) → IsTallied script tally events
    → Counts script table (after_line script (holdings script events) event)
    → IsTallied script (record { held = table; waiting = waiting_after tally.waiting event; owners = owners_after tally.owners event }) (events ++ event ∷ [])
tells_next script tally events event table tells counts = record {
  held = subst (λ (held : List Holding). Counts script table held) (sym (fold-append (after_line script) [] events (event ∷ []))) counts;
  waiting = record {
    room = length-waiting tally.waiting event ∙ tells.waiting.room;
    each = λ client inside.
        waits_next tally.waiting client event (omega (arith, tells.waiting.room))
        ∙ (ap (λ (lock : Option Holding). wanted_after client lock event) (tells.waiting.each client inside)
        ∙ sym (fold-append (wanted_after client) None events (event ∷ [])));
  };
  owners = record {
    room = length-owners tally.owners event ∙ tells.owners.room;
    each = λ s inside.
        owner_next tally.owners s event (omega (arith, tells.owners.room))
        ∙ (ap (λ (owner : Link). owner_after s owner event) (tells.owners.each s inside)
        ∙ sym (fold-append (owner_after s) (record { node = 0; epoch = 0 }) events (event ∷ [])));
  };
}

-- what is held after a lock is given up and another granted is what is held after the change
as_change_held : (script : ScriptData) (events : List Event) (client lock_set : ℕ) (gives_up mode : Mode)
    → holdings script ((events ++ Unlock client lock_set gives_up ∷ []) ++ Grant client lock_set mode ∷ []) ≡ holdings script (events ++ Change client lock_set gives_up mode ∷ [])
as_change_held script events client lock_set gives_up mode =
    fold-append (after_line script) [] (events ++ Unlock client lock_set gives_up ∷ []) (Grant client lock_set mode ∷ [])
    ∙ (ap (λ (held : List Holding). after_line script held (Grant client lock_set mode)) (fold-append (after_line script) [] events (Unlock client lock_set gives_up ∷ []))
    ∙ sym (fold-append (after_line script) [] events (Change client lock_set gives_up mode ∷ [])))

as_change_wanted : (events : List Event) (client lock_set : ℕ) (gives_up mode : Mode) (other : ℕ)
    → wanted other ((events ++ Unlock client lock_set gives_up ∷ []) ++ Grant client lock_set mode ∷ []) ≡ wanted other (events ++ Change client lock_set gives_up mode ∷ [])
as_change_wanted events client lock_set gives_up mode other =
    fold-append (wanted_after other) None (events ++ Unlock client lock_set gives_up ∷ []) (Grant client lock_set mode ∷ [])
    ∙ (ap (λ (lock : Option Holding). wanted_after other lock (Grant client lock_set mode)) (fold-append (wanted_after other) None events (Unlock client lock_set gives_up ∷ []))
    ∙ sym (fold-append (wanted_after other) None events (Change client lock_set gives_up mode ∷ [])))

as_change_owner : (events : List Event) (client lock_set : ℕ) (gives_up mode : Mode) (s : ℕ)
    → owner_of s ((events ++ Unlock client lock_set gives_up ∷ []) ++ Grant client lock_set mode ∷ []) ≡ owner_of s (events ++ Change client lock_set gives_up mode ∷ [])
as_change_owner events client lock_set gives_up mode s =
    let first : Link = record { node = 0; epoch = 0 } in
    fold-append (owner_after s) first (events ++ Unlock client lock_set gives_up ∷ []) (Grant client lock_set mode ∷ [])
    ∙ (ap (λ (owner : Link). owner_after s owner (Grant client lock_set mode)) (fold-append (owner_after s) first events (Unlock client lock_set gives_up ∷ []))
    ∙ sym (fold-append (owner_after s) first events (Change client lock_set gives_up mode ∷ [])))

-- a change comes to the same as giving one lock up and being granted the other
pub as_change : (script : ScriptData) (tally : Tally) (events : List Event) (client lock_set : ℕ) (gives_up mode : Mode)
    → IsTallied script tally ((events ++ Unlock client lock_set gives_up ∷ []) ++ Grant client lock_set mode ∷ [])
    → IsTallied script tally (events ++ Change client lock_set gives_up mode ∷ [])
as_change script tally events client lock_set gives_up mode tells = record {
  held = subst (λ (held : List Holding). Counts script tally.held held) (as_change_held script events client lock_set gives_up mode) tells.held;
  waiting = record {
    room = tells.waiting.room;
    each = λ other inside. tells.waiting.each other inside ∙ as_change_wanted events client lock_set gives_up mode other;
  };
  owners = record {
    room = tells.owners.room;
    each = λ s inside. tells.owners.each s inside ∙ as_change_owner events client lock_set gives_up mode s;
  };
}

-- giving up a lock adds none
pub fewer_held : (script : ScriptData) (events : List Event) (client lock_set : ℕ) (mode : Mode)
    → length (holdings script (events ++ Unlock client lock_set mode ∷ [])) ≤ length (holdings script events)
fewer_held script events client lock_set mode =
    let after = ap (λ (held : List Holding). length held) (fold-append (after_line script) [] events (Unlock client lock_set mode ∷ [])) in
    omega (arith, after, length-without (holdings script events) (holding client lock_set mode))

pub tells_event : (script : ScriptData) (tally : Tally) (events : List Event) (event made : Event) → event ≡ made
    → IsTallied script tally (events ++ made ∷ []) → IsTallied script tally (events ++ event ∷ [])
tells_event script tally events event made is tells = subst (λ (e : Event). IsTallied script tally (events ++ e ∷ [])) (sym is) tells
