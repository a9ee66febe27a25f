-- What a client of an upgrading script may hold, command by command.
use Rattle.std.proofs.Common.{◌≡◌, ◌≢◌, ℕ, zero, suc, ◌-◌, ◌<◌, ◌≤◌, ◌⊎◌, inl, inr, List, [], ◌∷◌, ◌++◌, length, Some, Bool, true, false, refl, sym, ap, subst, arith, take, ◌∙◌, ◌==◌, ◌&&◌, ◌||◌, not, nat_lt, if◌then◌else◌, IsTrue, fold, slice_get, eq-eqb, eqb-true, ltb-true, ne_eqb}
use Rattle.std.specs.List.{list_any}
use Rattle.std.proofs.lemmas.Bool.{and_left, and_right, and_parts, and_from, false≢true, or_cases}
use Rattle.std.proofs.lemmas.List.Sums.{sum_by-cons, sum_by_push}
use Rattle.lt_modes.specs.declared.mode.Mode.{Mode}
use Rattle.lt_modes.specs.declared.command.Command.{Command}
use Rattle.lt_modes.specs.declared.command.Command.TheVariants.{Lock, Try, Unlock, Change, DropAll, Withdraw}
use Rattle.lt_modes.specs.Modes.{one, covers, same_mode}
use Rattle.lt_modes.specs.Script.{ScriptData}
use Rattle.lt_lists.proofs.Members.{list_any-at, list_any-which}
use Rattle.lt_lists.proofs.Sums.{counted_in, counted_some}
use Rattle.lt_spec.specs.NodeMove.{commands_of}
use Rattle.lt_spec.specs.Holdings.{Holding, holding, same_holding, without_one, times_held}
use Rattle.lt_law_lines.proofs.LineCounts.{line_counts, same_holding-true, same_holding-itself}
use Rattle.lt_spec.specs.Ordered.{best_answer, may_hold_after, keeps_order, is_orderly_from}
use Rattle.lt_law_ordered.specs.OrderedLaws.{are_ranked_below}
use Rattle.lt_law_upgrades.specs.UpgradeLaws.{has_withdraw, may_stay, has_of_set, are_beside_or_below, upgrades_in_order, with_one_lock, may_still_hold_after, may_still_hold, is_upgrading_from, OrderedIsUpgrading}

-- each command of a client upgrades in order
upgrades_from : (script : ScriptData) (rank : ℕ → ℕ) (client : ℕ) (locks : List Holding) (commands : List Command) (k : ℕ) (command : Command)
    → is_upgrading_from script rank client locks commands ≡ true → slice_get commands k ≡ Some command
    → upgrades_in_order rank client (fold (may_still_hold_after script client) locks (take k commands)) command ≡ true
upgrades_from script rank client locks [] k command h e = cc
upgrades_from script rank client locks (first ∷ rest) zero command h e =
    subst (λ (c : Command). upgrades_in_order rank client locks c ≡ true) (some_one first command e) (and_parts (upgrades_in_order rank client locks first) _ h).0
  where
    some_one : (a b : Command) → Some a ≡ Some b → a ≡ b
    some_one a b e = cc
upgrades_from script rank client locks (first ∷ rest) (suc k) command h e =
    upgrades_from script rank client (may_still_hold_after script client locks first) rest k command (and_parts (upgrades_in_order rank client locks first) _ h).1 e

pub upgrades_at : (script : ScriptData) (rank : ℕ → ℕ) (client k : ℕ) (command : Command) → IsTrue (is_upgrading_from script rank client [] (commands_of script client))
    → slice_get (commands_of script client) k ≡ Some command → upgrades_in_order rank client (may_still_hold script client k) command ≡ true
upgrades_at script rank client k command h e = upgrades_from script rank client [] (commands_of script client) k command h e

-- after the last command it may hold nothing
none_from : (script : ScriptData) (rank : ℕ → ℕ) (client : ℕ) (locks : List Holding) (commands : List Command) (k : ℕ)
    → is_upgrading_from script rank client locks commands ≡ true → length commands ≤ k → fold (may_still_hold_after script client) locks (take k commands) ≡ []
none_from script rank client [] [] zero h all = refl
none_from script rank client [] [] (suc k) h all = refl
none_from script rank client (lock ∷ rest) [] k h all = cc
none_from script rank client locks (first ∷ rest) zero h all = absurd (omega (arith, all))
none_from script rank client locks (first ∷ rest) (suc k) h all =
    none_from script rank client (may_still_hold_after script client locks first) rest k (and_parts (upgrades_in_order rank client locks first) _ h).1 (omega (arith, all))

pub upgrading_none : (script : ScriptData) (rank : ℕ → ℕ) (client k : ℕ) → IsTrue (is_upgrading_from script rank client [] (commands_of script client))
    → length (commands_of script client) ≤ k → may_still_hold script client k ≡ []
upgrading_none script rank client k h all = none_from script rank client [] (commands_of script client) k h all

-- one command more
fold_more : {X Y : Type 0} (f : Y → X → Y) (first : Y) (xs : List X) (k : ℕ) (x : X) → slice_get xs k ≡ Some x → fold f first (take (suc k) xs) ≡ f (fold f first (take k xs)) x
fold_more f first [] k x e = cc
fold_more f first (y ∷ rest) zero x e = ap (f first) (some_one y x e)
  where
    some_one : {X : Type 0} (a b : X) → Some a ≡ Some b → a ≡ b
    some_one a b e = cc
fold_more f first (y ∷ rest) (suc k) x e = fold_more f (f first y) rest k x e

pub still_more : (script : ScriptData) (client k : ℕ) (command : Command) → slice_get (commands_of script client) k ≡ Some command
    → may_still_hold script client (suc k) ≡ may_still_hold_after script client (may_still_hold script client k) command
still_more script client k command e = fold_more (may_still_hold_after script client) [] (commands_of script client) k command e

-- where no lock of a set may be held
pub none_of_set : (client s : ℕ) (mode : Mode) (locks : List Holding) → has_of_set s locks ≡ false → times_held locks (holding client s mode) ≡ 0
none_of_set client s mode locks none = by_count (times_held locks (holding client s mode)) refl
  where
    by_count : (n : ℕ) → times_held locks (holding client s mode) ≡ n → n ≡ 0
    by_count zero e = refl
    by_count (suc n) e =
        let found = counted_in (same_holding (holding client s mode)) locks (omega (arith, e)) in
        let same : s ≡ found.0.set = ap (λ (x : Holding). x.set) (same_holding-true (holding client s mode) found.0 found.2) in
        absurd (false≢true (sym none ∙ list_any-at (λ (lock : Holding). lock.set == s) locks found.0 found.1 (eq-eqb found.0.set s (sym same))))

below_of_set : (rank : ℕ → ℕ) (s : ℕ) (locks : List Holding) → are_ranked_below rank s locks ≡ true → has_of_set s locks ≡ false
below_of_set rank s [] h = refl
below_of_set rank s (lock ∷ rest) h =
    let parts = and_parts (nat_lt (rank lock.set) (rank s)) _ h in
    by_test (lock.set == s) refl parts.0 (below_of_set rank s rest parts.1)
  where
    by_test : (here : Bool) → (lock.set == s) ≡ here → nat_lt (rank lock.set) (rank s) ≡ true → has_of_set s rest ≡ false → (here || has_of_set s rest) ≡ false
    by_test true e low later = absurd (omega (arith, ltb-true (rank lock.set) (rank s) low, ap rank (eqb-true lock.set s e)))
    by_test false e low later = later

-- where a command asks for a set no lock of it may be held
pub asks_none : (rank : ℕ → ℕ) (client s : ℕ) (mode : Mode) (locks : List Holding) (command : Command) → (command ≡ Lock s mode) ⊎ (command ≡ Try s mode)
    → upgrades_in_order rank client locks command ≡ true → (m : Mode) → times_held locks (holding client s m) ≡ 0
asks_none rank client s mode locks command which h m = none_of_set client s m locks (elim which [
  | inl is ↦ below_of_set rank s locks (subst (λ (c : Command). upgrades_in_order rank client locks c ≡ true) is h)
  | inr is ↦ not_true _ (subst (λ (c : Command). upgrades_in_order rank client locks c ≡ true) is h)
])
  where
    not_true : (b : Bool) → not b ≡ true → b ≡ false
    not_true true e = cc
    not_true false e = refl

-- a lock of another set that counts is of a smaller rank
pub beside_lock : (rank : ℕ → ℕ) (s : ℕ) (locks : List Holding) (key : Holding) → are_beside_or_below rank s locks ≡ true → 1 ≤ times_held locks key → key.set ≢ s → rank key.set < rank s
beside_lock rank s [] key h some other = absurd (omega (arith, some))
beside_lock rank s (lock ∷ rest) key h some other = by_same (same_holding key lock) refl (λ more. beside_lock rank s rest key parts.1 more other)
  where
    parts : ((lock.set == s || nat_lt (rank lock.set) (rank s)) ≡ true) × (are_beside_or_below rank s rest ≡ true)
    parts = and_parts (lock.set == s || nat_lt (rank lock.set) (rank s)) _ h

    by_same : (same : Bool) → same_holding key lock ≡ same → (1 ≤ times_held rest key → rank key.set < rank s) → rank key.set < rank s
    by_same true e again =
        let is : key ≡ lock = same_holding-true key lock e in
        elim (or_cases (lock.set == s) _ parts.0) [
          | inl own ↦ absurd (other (ap (λ (x : Holding). x.set) is ∙ eqb-true lock.set s own))
          | inr low ↦ omega (arith, ltb-true (rank lock.set) (rank s) low, ap (λ (x : Holding). rank x.set) is)
        ]
    by_same false e again =
        let none : ◌≡◌ {A = ℕ} (if same_holding key lock then 1 else 0) 0 = ap (λ (b : Bool). if b then 1 else 0) e in
        again (omega (arith, some, none, sum_by-cons (λ (x : Holding). if same_holding key x then 1 else 0) lock rest))

-- a lock that comes to others: they stay, and it is there
pub with_one_lock-most : (locks : List Holding) (lock key : Holding) → times_held locks key ≤ times_held (with_one_lock locks lock) key
with_one_lock-most locks lock key = by_test (list_any (same_holding lock) locks)
  where
    by_test : (among : Bool) → times_held locks key ≤ times_held (if among then locks else locks ++ lock ∷ []) key
    by_test true = omega arith
    by_test false = omega (arith, sum_by_push (λ (x : Holding). if same_holding key x then 1 else 0) locks lock)

pub with_one_lock-there : (locks : List Holding) (lock : Holding) → 1 ≤ times_held (with_one_lock locks lock) lock
with_one_lock-there locks lock = by_test (list_any (same_holding lock) locks) refl
  where
    by_test : (among : Bool) → list_any (same_holding lock) locks ≡ among → 1 ≤ times_held (if among then locks else locks ++ lock ∷ []) lock
    by_test true e = let found = list_any-which (same_holding lock) locks e in counted_some (same_holding lock) locks found.0 found.1 found.2
    by_test false e = omega (arith, sum_by_push (λ (x : Holding). if same_holding lock x then 1 else 0) locks lock, ap {B = ℕ} (λ (b : Bool). if b then 1 else 0) (same_holding-itself lock))

-- another one comes, and nothing of this one changes
pub with_one_lock-other : (locks : List Holding) (lock key : Holding) → same_holding key lock ≡ false → times_held (with_one_lock locks lock) key ≡ times_held locks key
with_one_lock-other locks lock key other = by_test (list_any (same_holding lock) locks)
  where
    by_test : (among : Bool) → times_held (if among then locks else locks ++ lock ∷ []) key ≡ times_held locks key
    by_test true = refl
    by_test false = omega (arith, sum_by_push (λ (x : Holding). if same_holding key x then 1 else 0) locks lock, ap {B = ℕ} (λ (b : Bool). if b then 1 else 0) other)

-- another one goes
pub without_other : (script : ScriptData) (client s : ℕ) (mode : Mode) (locks : List Holding) (key : Holding) → same_holding key (holding client s mode) ≡ false
    → times_held (without_one locks (holding client s mode)) key ≡ times_held locks key
without_other script client s mode locks key other =
    line_counts script key locks (best_answer client (Unlock s mode)) ∙ ap (λ (b : Bool). if b then times_held locks key - 1 else times_held locks key) other

-- the list after a change has the new mode, and the old ones but for that which is given up
pub changed_has : (script : ScriptData) (client s : ℕ) (gives_up mode : Mode) (locks : List Holding) → 1 ≤ times_held (may_still_hold_after script client locks (Change s gives_up mode)) (holding client s mode)
changed_has script client s gives_up mode locks =
    with_one_lock-there (if may_stay script client s gives_up mode then locks else without_one locks (holding client s gives_up)) (holding client s mode)

pub changed_keeps : (script : ScriptData) (client s : ℕ) (gives_up mode : Mode) (locks : List Holding) (key : Holding) → same_holding key (holding client s gives_up) ≡ false
    → times_held locks key ≤ times_held (may_still_hold_after script client locks (Change s gives_up mode)) key
changed_keeps script client s gives_up mode locks key other = by_stay (may_stay script client s gives_up mode)
  where
    by_stay : (stays : Bool) → times_held locks key ≤ times_held (with_one_lock (if stays then locks else without_one locks (holding client s gives_up)) (holding client s mode)) key
    by_stay true = with_one_lock-most locks (holding client s mode) key
    by_stay false = omega (
      arith,
      with_one_lock-most (without_one locks (holding client s gives_up)) (holding client s mode) key,
      without_other script client s gives_up locks key other,
    )

pub changed_stays : (script : ScriptData) (client s : ℕ) (gives_up mode : Mode) (locks : List Holding) (key : Holding) → has_withdraw script client s ≡ true → covers (one gives_up) mode ≡ false
    → times_held locks key ≤ times_held (may_still_hold_after script client locks (Change s gives_up mode)) key
changed_stays script client s gives_up mode locks key may higher =
    subst (λ (b : Bool). times_held locks key ≤ times_held (with_one_lock (if b then locks else without_one locks (holding client s gives_up)) (holding client s mode)) key)
    (sym (λ i. may i && not (higher i))) (with_one_lock-most locks (holding client s mode) key)

-- of another set nothing changes
pub aside_change : (script : ScriptData) (client s set : ℕ) (gives_up mode : Mode) (locks : List Holding) (m : Mode) → s ≢ set
    → times_held (may_still_hold_after script client locks (Change set gives_up mode)) (holding client s m) ≡ times_held locks (holding client s m)
aside_change script client s set gives_up mode locks m d = by_stay (may_stay script client set gives_up mode)
  where
    other : (wanted : Mode) → same_holding (holding client s m) (holding client set wanted) ≡ false
    other wanted = and_right (client == client) _ (and_left (s == set) (same_mode m wanted) (ne_eqb s set d))

    by_stay : (stays : Bool) → times_held (with_one_lock (if stays then locks else without_one locks (holding client set gives_up)) (holding client set mode)) (holding client s m) ≡ times_held locks (holding client s m)
    by_stay true = with_one_lock-other locks (holding client set mode) (holding client s m) (other mode)
    by_stay false =
        with_one_lock-other (without_one locks (holding client set gives_up)) (holding client set mode) (holding client s m) (other mode)
        ∙ without_other script client set gives_up locks (holding client s m) (other gives_up)

-- an ordered script is upgrading, by the numbers of its sets
ordered_from : (script : ScriptData) (client : ℕ) (locks : List Holding) (commands : List Command) → is_orderly_from script client locks commands ≡ true
    → is_upgrading_from script (λ s. s) client locks commands ≡ true
ordered_from script client locks [] h = h
ordered_from script client locks (command ∷ rest) h =
    let parts = and_parts (keeps_order client locks command) _ h in
    by_command (λ l more. ordered_from script client l rest more) command parts.0 parts.1
  where
    by_command : ((l : List Holding) → is_orderly_from script client l rest ≡ true → is_upgrading_from script (λ s. s) client l rest ≡ true)
        → (c : Command) → keeps_order client locks c ≡ true → is_orderly_from script client (may_hold_after script client locks c) rest ≡ true
        → (upgrades_in_order (λ s. s) client locks c && is_upgrading_from script (λ s. s) client (may_still_hold_after script client locks c) rest) ≡ true
    by_command again (Lock s mode) g more = and_from _ _ g (again (may_hold_after script client locks (Lock s mode)) more)
    by_command again (Try s mode) g more = and_from _ _ (ap not (below_of_set (λ k. k) s locks g)) (again (may_hold_after script client locks (Try s mode)) more)
    by_command again (Unlock s mode) g more = again (may_hold_after script client locks (Unlock s mode)) more
    by_command again (Change s gives_up mode) g more = absurd (false≢true g)
    by_command again (DropAll other s) g more = again (may_hold_after script client locks (DropAll other s)) more
    by_command again (Withdraw other s) g more = again (may_hold_after script client locks (Withdraw other s)) more

pub ordered_is_upgrading : OrderedIsUpgrading
ordered_is_upgrading script h client known = ordered_from script client [] (commands_of script client) (h client known)
