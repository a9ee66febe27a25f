-- Entries by place: what is seen of them, and their room.
use Rattle.std.proofs.Common.{◌≡◌, ℕ, zero, suc, ◌+◌, ◌<◌, ◌≤◌, List, [], ◌∷◌, length, map, take, subst, sym, add-one, arith, refl, ap, ◌∙◌, Bool, true, false, Option, Some, None, ◌≢◌, inl, inr, Result, Ok, Err, OnErr, slice_index_or, slice_set, ◌⊎◌, ◌&&◌, ◌==◌, not, nat_lt}
use Rattle.std.proofs.lemmas.Bool.{cases_eq, cases_lt}
use Rattle.std.proofs.lemmas.Bool.Decides.{nat_tests}
use Rattle.std.proofs.lemmas.List.{length-map}
use Rattle.lt_modes.specs.State as rules
use Rattle.lt_modes.specs.Modes.{Modes, same_modes, union, no_modes}
use Rattle.lt_modes.specs.State.{record_of, own_part, others}
use Rattle.lt_modes.proofs.ModeAlgebra.{same_modes-true}
use Rattle.lt_modes.specs.declared.mode.Mode.{Mode}
use Rattle.lt_modes.specs.FiveModes.{mode_count, CanShift, IsShifted, modes_beyond}
use Rattle.lt_table.specs.declared.entry.Entry.{Entry}
use Rattle.lt_table.specs.Seen.{entry_seen, spare_of, spare_in}
use Rattle.lt_table.specs.TableData.{put_by, entry_at, misses, AreTold, AreToldLast, IsStillTold, AreNodeCounts}
use Rattle.lt_table.proofs.CountLemmas.{can_shift, shifted_are, others_apart, others_plain}

-- what holds holds of an error
pub on_err : {T E P : Type 0} (r : Result T E) → P → OnErr r P
on_err (Ok x) p = tt
on_err (Err e) p = p

-- the least spare is at most that of each entry
pub spare_at : (es : List Entry) (x : ℕ) (d : Entry) → x < length es
    → spare_in es ≤ spare_of (slice_index_or es x d)
spare_at [] x d h = absurd (omega arith)
spare_at (e ∷ es) zero d h = omega arith
spare_at (e ∷ es) (suc x) d h = omega (arith, spare_at es x d (omega (arith, h)))

-- an entry whose spare fell by at most j lowers the least spare by at most j
pub spare_set : (es : List Entry) (x : ℕ) (e d : Entry) (j : ℕ) → spare_of (slice_index_or es x d) ≤ spare_of e + j
    → spare_in es ≤ spare_in (slice_set es x e) + j
spare_set [] x e d j h = omega arith
spare_set (f ∷ es) zero e d j h = omega (arith, h)
spare_set (f ∷ es) (suc x) e d j h = omega (arith, spare_set es x e d j h)

pub spare_same : (es : List Entry) (x : ℕ) (e d : Entry) → spare_of e ≡ spare_of (slice_index_or es x d)
    → spare_in (slice_set es x e) ≡ spare_in es
spare_same [] x e d h = refl
spare_same (f ∷ es) zero e d h = omega (arith, h)
spare_same (f ∷ es) (suc x) e d h = omega (arith, spare_same es x e d h)

-- the entries up to place x have so many places
pub spare_take : (asks : ℕ) (es : List Entry) (x : ℕ) (e : Entry) → x < length es → asks ≤ spare_of e
    → asks ≤ spare_in (take x es)
    → asks ≤ spare_in (take (suc x) (slice_set es x e))
spare_take asks [] x e h spare all = absurd (omega arith)
spare_take asks (f ∷ es) zero e h spare all = omega (arith, spare, all)
spare_take asks (f ∷ es) (suc x) e h spare all =
    omega (arith, all, spare_take asks es x e (omega (arith, h)) spare (omega (arith, all)))

pub spare_next : (asks : ℕ) (es : List Entry) (x : ℕ) (e : Entry) → x < length es → asks ≤ spare_of e
    → asks ≤ spare_in (take x es)
    → asks ≤ spare_in (take (x + 1) (slice_set es x e))
spare_next asks es x e h spare all =
    subst (λ j. asks ≤ spare_in (take j (slice_set es x e))) (sym (add-one x)) (spare_take asks es x e h spare all)

seen_put : (f : rules.Entry → rules.Entry) (es : List Entry) (x : ℕ) (e d : Entry) → x < length es
    → entry_seen e ≡ f (entry_seen (slice_index_or es x d))
    → map entry_seen (slice_set es x e) ≡ put_by x f (map entry_seen es)
seen_put f [] x e d h same = absurd (omega arith)
seen_put f (g ∷ es) zero e d h same = ap (λ y. y ∷ map entry_seen es) same
seen_put f (g ∷ es) (suc x) e d h same = ap (λ ys. entry_seen g ∷ ys) (seen_put f es x e d (omega (arith, h)) same)

-- a changed entry is seen as changed
pub entries_put : (f : rules.Entry → rules.Entry) (es : List Entry) (seen : List rules.Entry) (x node : ℕ) (e new : Entry)
    → map entry_seen es ≡ seen → x ≡ node → x < length es → e ≡ slice_index_or es x e → entry_seen new ≡ f (entry_seen e)
    → map entry_seen (slice_set es x new) ≡ put_by node f seen
entries_put f es seen x node e new is_seen same h there changed =
    rw (sym is_seen, sym same) (seen_put f es x new e h (changed ∙ ap (λ y. f (entry_seen y)) there))

-- an entry that is seen as before
pub entries_same : (es : List Entry) (x : ℕ) (e d : Entry) → entry_seen e ≡ entry_seen (slice_index_or es x d)
    → map entry_seen (slice_set es x e) ≡ map entry_seen es
entries_same [] x e d same = refl
entries_same (g ∷ es) zero e d same = ap (λ y. y ∷ map entry_seen es) same
entries_same (g ∷ es) (suc x) e d same = ap (λ ys. entry_seen g ∷ ys) (entries_same es x e d same)

-- The frozen modes that all were told, as one of the entries changes and as they are read.

told_at : (frozen : Modes) (es : List rules.Entry) (x y : ℕ) (new : rules.Entry)
    → misses frozen (record_of new) new.frozen_told ≡ false
    → misses frozen (record_of (entry_at es y)) (entry_at es y).frozen_told ≡ false
    → misses frozen (record_of (entry_at (slice_set es x new) y)) (entry_at (slice_set es x new) y).frozen_told ≡ false
told_at frozen [] x y new told before = before
told_at frozen (e ∷ es) zero zero new told before = told
told_at frozen (e ∷ es) zero (suc y) new told before = before
told_at frozen (e ∷ es) (suc x) zero new told before = before
told_at frozen (e ∷ es) (suc x) (suc y) new told before = told_at frozen es x y new told before

-- one entry changed, and its node was told what is still kept
pub still_kept : (es : List Entry) (all made : Option Modes) (x : ℕ) (e new : Entry) (known last : Modes)
    → AreToldLast (map entry_seen es) all → x < length es → e ≡ slice_index_or es x e
    → known ≡ record_of (entry_seen new) → last ≡ (entry_seen new).frozen_told → IsStillTold all known last made
    → AreToldLast (map entry_seen (slice_set es x new)) made
still_kept es all None x e new known last are h there is_known is_last still = tt
still_kept es all (Some frozen) x e new known last are h there is_known is_last still =
    let were : AreTold frozen (map entry_seen es) = subst (λ (o : Option Modes). AreToldLast (map entry_seen es) o) still.0 are in
    let here : misses frozen (record_of (entry_seen new)) (entry_seen new).frozen_told ≡ false =
    subst (λ (m : Modes). misses frozen (record_of (entry_seen new)) m ≡ false) is_last
    (subst (λ (m : Modes). misses frozen m last ≡ false) is_known still.1) in
    subst (λ (seen : List rules.Entry). AreTold frozen seen)
    (sym (entries_put (λ old. entry_seen new) es (map entry_seen es) x x e new refl refl h there refl))
    (λ y. told_at frozen (map entry_seen es) x y (entry_seen new) here (were y))

-- what is kept was told, where it is these modes
pub all_were_told : (es seen : List rules.Entry) (all : Option Modes) (kept frozen : Modes) (b : Bool)
    → AreToldLast es all → all ≡ Some kept → es ≡ seen → b ≡ same_modes kept frozen → b ≡ true → AreTold frozen seen
all_were_told es seen all kept frozen b are is same test holds =
    subst (λ (list : List rules.Entry). AreTold frozen list) same
    (subst (λ (m : Modes). AreTold m es) (same_modes-true kept frozen (sym test ∙ holds))
    (subst (λ (o : Option Modes). AreToldLast es o) is are))

-- The counts of a table, as one of its entries changes and as they are read.

pub seen_at : (es : List Entry) (x : ℕ) (d : Entry) → x < length es → entry_at (map entry_seen es) x ≡ entry_seen (slice_index_or es x d)
seen_at [] x d h = absurd (omega (arith, h))
seen_at (e ∷ es) zero d h = refl
seen_at (e ∷ es) (suc x) d h = seen_at es x d (omega (arith, h))

record_there : (es : List Entry) (x : ℕ) (e : Entry) (from : Modes) → x < length es → e ≡ slice_index_or es x e → from ≡ record_of (entry_seen e)
    → record_of (entry_at (map entry_seen es) x) ≡ from
record_there es x e from h there is = ap record_of (seen_at es x e h ∙ ap entry_seen (sym there)) ∙ sym is

pub can_recount : (es : List Entry) (counts : List ℕ) (x : ℕ) (e new : Entry) (from to : Modes)
    → length es < 256 → AreNodeCounts (map entry_seen es) counts → x < length es → e ≡ slice_index_or es x e
    → from ≡ record_of (entry_seen e) → to ≡ record_of (entry_seen new) → (mode : Mode) → CanShift counts from to mode
can_recount es counts x e new from to few are h there was is mode =
    let len = length-map es entry_seen in
    rw (sym (record_there es x e from h there was), is)
    (can_shift (map entry_seen es) counts x (entry_seen new) (omega (arith, few, len)) are (omega (arith, h, len)) mode)

pub recounted : (es : List Entry) (counts made : List ℕ) (x : ℕ) (e new : Entry) (from to : Modes)
    → AreNodeCounts (map entry_seen es) counts → x < length es → e ≡ slice_index_or es x e
    → from ≡ record_of (entry_seen e) → to ≡ record_of (entry_seen new)
    → ((mode : Mode) → IsShifted counts from to mode (mode_count mode made))
    → AreNodeCounts (map entry_seen (slice_set es x new)) made
recounted es counts made x e new from to are h there was is shifted =
    let len = length-map es entry_seen in
    let same = record_there es x e from h there was in
    subst (λ (all : List rules.Entry). AreNodeCounts all made) (sym (entries_put (λ old. entry_seen new) es (map entry_seen es) x x e new refl refl h there refl))
    (shifted_are (map entry_seen es) counts made x (entry_seen new) are (omega (arith, h, len))
    (λ mode. subst (λ (r : Modes). IsShifted counts r (record_of (entry_seen new)) mode (mode_count mode made)) (sym same)
    (subst (λ (r : Modes). IsShifted counts from r mode (mode_count mode made)) is (shifted mode))))

apart_is : (me v n : ℕ) → (not (me == v) && nat_lt me n) ≡ true → (me ≢ v) × (me < n)
apart_is me v n e = grind (arith, nat_tests)

plain_is : (me v n : ℕ) → (not (me == v) && nat_lt me n) ≡ false → (me ≡ v) ⊎ (n ≤ me)
plain_is me v n e = elim (cases_eq me v) [
  | inl same ↦ inl same
  | inr other ↦ elim (cases_lt me n) [
    | inl within ↦ grind (arith, nat_tests)
    | inr out ↦ inr out
  ]
]

pub others_are_apart : (counts : List ℕ) (entries : List rules.Entry) (me v : ℕ) (own at_v at_me result : Modes) (t : Bool) (s : rules.SetState) (desk : rules.Desk)
    → AreNodeCounts entries counts → t ≡ (not (me == v) && nat_lt me (length entries)) → t ≡ true
    → at_v ≡ record_of (entry_at entries v) → at_me ≡ record_of (entry_at entries me) → result ≡ union (modes_beyond counts at_v at_me) own
    → desk.entries ≡ entries → own_part me s desk ≡ own → result ≡ others me s desk v
others_are_apart counts entries me v own at_v at_me result t s desk are test holds is_v is_me is e mine =
    let known = apart_is me v (length entries) (sym test ∙ holds) in
    is ∙ rw (is_v, is_me, sym e, sym mine)
    (others_apart counts me v s desk (subst (λ (all : List rules.Entry). AreNodeCounts all counts) (sym e) are) known.0 (subst (λ (all : List rules.Entry). me < length all) (sym e) known.1))

pub others_are_plain : (counts : List ℕ) (entries : List rules.Entry) (me v : ℕ) (at_v none result : Modes) (t : Bool) (s : rules.SetState) (desk : rules.Desk)
    → AreNodeCounts entries counts → t ≡ (not (me == v) && nat_lt me (length entries)) → t ≡ false
    → at_v ≡ record_of (entry_at entries v) → none ≡ no_modes → result ≡ modes_beyond counts at_v none
    → desk.entries ≡ entries → result ≡ others me s desk v
others_are_plain counts entries me v at_v none result t s desk are test fails is_v is_none is e =
    let known = plain_is me v (length entries) (sym test ∙ fails) in
    is ∙ rw (is_v, is_none, sym e)
    (others_plain counts me v s desk (subst (λ (all : List rules.Entry). AreNodeCounts all counts) (sym e) are) (subst (λ (all : List rules.Entry). (me ≡ v) ⊎ (length all ≤ me)) (sym e) known))
