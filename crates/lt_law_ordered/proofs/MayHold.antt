-- What a client may hold, command by command.
use Rattle.std.proofs.Common.{◌≡◌, ℕ, zero, suc, ◌+◌, ◌-◌, ◌<◌, ◌≤◌, List, [], ◌∷◌, length, Some, Bool, true, false, refl, ap, subst, arith, take, nat_lt, if◌then◌else◌, IsTrue, fold, slice_get, ltb-true}
use Rattle.std.proofs.lemmas.Bool.{and_parts, false≢true, and_from}
use Rattle.std.proofs.lemmas.List.Sums.{sum_by-cons}
use Rattle.lt_modes.specs.declared.command.Command.{Command}
use Rattle.lt_modes.specs.declared.command.Command.TheVariants.{Lock, Try, Unlock, Change, DropAll, Withdraw}
use Rattle.lt_modes.specs.Script.{ScriptData}
use Rattle.lt_spec.specs.NodeMove.{commands_of}
use Rattle.lt_spec.specs.Holdings.{Holding, holding, same_holding, is_dropped, times_held}
use Rattle.lt_law_lines.proofs.LineCounts.{count_after, line_counts, same_holding-true}
use Rattle.lt_spec.specs.Ordered.{best_answer, may_hold_after, may_hold, keeps_order, is_orderly_from, IsOrdered}
use Rattle.lt_law_ordered.specs.OrderedLaws.{is_steady, are_ranked_below, goes_up, is_ranked_from, IsRanked, asks_alone, is_alone_from, NeverAsksHolding}

-- one command more
fold_more : {X Y : Type 0} (f : Y → X → Y) (first : Y) (xs : List X) (k : ℕ) (x : X) → slice_get xs k ≡ Some x → fold f first (take (suc k) xs) ≡ f (fold f first (take k xs)) x
fold_more f first [] k x e = cc
fold_more f first (y ∷ rest) zero x e = ap (f first) (some_one y x e)
  where
    some_one : {X : Type 0} (a b : X) → Some a ≡ Some b → a ≡ b
    some_one a b e = cc
fold_more f first (y ∷ rest) (suc k) x e = fold_more f (f first y) rest k x e

pub may_hold_more : (script : ScriptData) (client k : ℕ) (command : Command) → slice_get (commands_of script client) k ≡ Some command
    → may_hold script client (suc k) ≡ may_hold_after script client (may_hold script client k) command
may_hold_more script client k command e = fold_more (may_hold_after script client) [] (commands_of script client) k command e

-- and how many locks it may be
pub may_count : (script : ScriptData) (client : ℕ) (key : Holding) (locks : List Holding) (command : Command)
    → times_held (may_hold_after script client locks command) key ≡ count_after script key (times_held locks key) (best_answer client command)
may_count script client key locks command = line_counts script key locks (best_answer client command)

-- from more locks no fewer
pub count_grows : (script : ScriptData) (client : ℕ) (key : Holding) (n m : ℕ) (command : Command) → IsTrue (is_steady command) → n ≤ m
    → count_after script key n (best_answer client command) ≤ count_after script key m (best_answer client command)
count_grows script client key n m (Lock s mode) steady h = by_same (same_holding key (holding client s mode))
  where
    by_same : (same : Bool) → (if same then n + 1 else n) ≤ (if same then m + 1 else m)
    by_same true = omega (arith, h)
    by_same false = h
count_grows script client key n m (Try s mode) steady h = by_same (same_holding key (holding client s mode))
  where
    by_same : (same : Bool) → (if same then n + 1 else n) ≤ (if same then m + 1 else m)
    by_same true = omega (arith, h)
    by_same false = h
count_grows script client key n m (Unlock s mode) steady h = by_same (same_holding key (holding client s mode))
  where
    by_same : (same : Bool) → (if same then n - 1 else n) ≤ (if same then m - 1 else m)
    by_same true = omega (arith, h)
    by_same false = h
count_grows script client key n m (Change s gives_up mode) steady h = by_same (same_holding key (holding client s mode)) (same_holding key (holding client s gives_up))
  where
    by_same : (given gone : Bool) → (if given then (if gone then n - 1 else n) + 1 else (if gone then n - 1 else n)) ≤ (if given then (if gone then m - 1 else m) + 1 else (if gone then m - 1 else m))
    by_same true true = omega (arith, h)
    by_same true false = omega (arith, h)
    by_same false true = omega (arith, h)
    by_same false false = h
count_grows script client key n m (DropAll other s) steady h = by_same (is_dropped script other s key)
  where
    by_same : (same : Bool) → (if same then 0 else n) ≤ (if same then 0 else m)
    by_same true = omega arith
    by_same false = h
count_grows script client key n m (Withdraw other s) steady h = h

-- each command of a ranked client goes up
goes_up_from : (script : ScriptData) (rank : ℕ → ℕ) (client : ℕ) (locks : List Holding) (commands : List Command) (k : ℕ) (command : Command)
    → is_ranked_from script rank client locks commands ≡ true → slice_get commands k ≡ Some command
    → goes_up rank (fold (may_hold_after script client) locks (take k commands)) command ≡ true
goes_up_from script rank client locks [] k command h e = cc
goes_up_from script rank client locks (first ∷ rest) zero command h e =
    subst (λ (c : Command). goes_up rank locks c ≡ true) (some_one first command e) (and_parts (goes_up rank locks first) _ h).0
  where
    some_one : (a b : Command) → Some a ≡ Some b → a ≡ b
    some_one a b e = cc
goes_up_from script rank client locks (first ∷ rest) (suc k) command h e =
    goes_up_from script rank client (may_hold_after script client locks first) rest k command (and_parts (goes_up rank locks first) _ h).1 e

pub ranked_goes_up : (script : ScriptData) (rank : ℕ → ℕ) (client k : ℕ) (command : Command) → IsTrue (is_ranked_from script rank client [] (commands_of script client))
    → slice_get (commands_of script client) k ≡ Some command → goes_up rank (may_hold script client k) command ≡ true
ranked_goes_up script rank client k command h e = goes_up_from script rank client [] (commands_of script client) k command h e

-- after the last command it may hold nothing
none_from : (script : ScriptData) (rank : ℕ → ℕ) (client : ℕ) (locks : List Holding) (commands : List Command) (k : ℕ)
    → is_ranked_from script rank client locks commands ≡ true → length commands ≤ k → fold (may_hold_after script client) locks (take k commands) ≡ []
none_from script rank client [] [] zero h all = refl
none_from script rank client [] [] (suc k) h all = refl
none_from script rank client (lock ∷ rest) [] k h all = cc
none_from script rank client locks (first ∷ rest) zero h all = absurd (omega (arith, all))
none_from script rank client locks (first ∷ rest) (suc k) h all =
    none_from script rank client (may_hold_after script client locks first) rest k (and_parts (goes_up rank locks first) _ h).1 (omega (arith, all))

pub ranked_none : (script : ScriptData) (rank : ℕ → ℕ) (client k : ℕ) → IsTrue (is_ranked_from script rank client [] (commands_of script client))
    → length (commands_of script client) ≤ k → may_hold script client k ≡ []
ranked_none script rank client k h all = none_from script rank client [] (commands_of script client) k h all

-- it changes no mode
pub ranked_steady : (script : ScriptData) (rank : ℕ → ℕ) (client k : ℕ) (command : Command) → IsTrue (is_ranked_from script rank client [] (commands_of script client))
    → slice_get (commands_of script client) k ≡ Some command → IsTrue (is_steady command)
ranked_steady script rank client k command h e = by_command command (ranked_goes_up script rank client k command h e)
  where
    by_command : (c : Command) → goes_up rank (may_hold script client k) c ≡ true → IsTrue (is_steady c)
    by_command (Lock s mode) g = refl
    by_command (Try s mode) g = g
    by_command (Unlock s mode) g = g
    by_command (Change s gives_up mode) g = g
    by_command (DropAll other s) g = g
    by_command (Withdraw other s) g = g

-- a lock that counts is of a smaller rank
pub ranked_lock : (rank : ℕ → ℕ) (s : ℕ) (locks : List Holding) (key : Holding) → are_ranked_below rank s locks ≡ true → 1 ≤ times_held locks key → rank key.set < rank s
ranked_lock rank s [] key h some = absurd (omega (arith, some))
ranked_lock rank s (lock ∷ rest) key h some = by_same (same_holding key lock) refl (λ more. ranked_lock rank s rest key parts.1 more)
  where
    parts : (nat_lt (rank lock.set) (rank s) ≡ true) × (are_ranked_below rank s rest ≡ true)
    parts = and_parts (nat_lt (rank lock.set) (rank s)) _ h

    by_same : (same : Bool) → same_holding key lock ≡ same → (1 ≤ times_held rest key → rank key.set < rank s) → rank key.set < rank s
    by_same true e again = omega (arith, ltb-true (rank lock.set) (rank s) parts.0, ap (λ (x : Holding). rank x.set) (same_holding-true key lock e))
    by_same false e again =
        let none : ◌≡◌ {A = ℕ} (if same_holding key lock then 1 else 0) 0 = ap (λ (b : Bool). if b then 1 else 0) e in
        again (omega (arith, some, none, sum_by-cons (λ (x : Holding). if same_holding key x then 1 else 0) lock rest))

-- an ordered script is ranked by the numbers of the sets
ordered_from : (script : ScriptData) (client : ℕ) (locks : List Holding) (commands : List Command) → is_orderly_from script client locks commands ≡ true
    → is_ranked_from script (λ s. s) client locks commands ≡ true
ordered_from script client locks [] h = h
ordered_from script client locks (command ∷ rest) h =
    let parts = and_parts (keeps_order client locks command) _ h in
    and_from _ _ (by_command command parts.0) (ordered_from script client (may_hold_after script client locks command) rest parts.1)
  where
    by_command : (c : Command) → keeps_order client locks c ≡ true → goes_up (λ s. s) locks c ≡ true
    by_command (Lock s mode) g = g
    by_command (Try s mode) g = refl
    by_command (Unlock s mode) g = refl
    by_command (Change s gives_up mode) g = absurd (false≢true g)
    by_command (DropAll other s) g = refl
    by_command (Withdraw other s) g = refl

pub ordered_ranked : (script : ScriptData) → IsOrdered script → IsRanked script (λ s. s)
ordered_ranked script h client known = ordered_from script client [] (commands_of script client) (h client known)

-- a script whose clients never ask while they hold is ranked by any constant
alone_from : (script : ScriptData) (client : ℕ) (locks : List Holding) (commands : List Command) → is_alone_from script client locks commands ≡ true
    → is_ranked_from script (λ s. 0) client locks commands ≡ true
alone_from script client locks [] h = h
alone_from script client locks (command ∷ rest) h =
    let parts = and_parts (asks_alone locks command) _ h in
    and_from _ _ (by_command command locks parts.0) (alone_from script client (may_hold_after script client locks command) rest parts.1)
  where
    by_command : (c : Command) (held : List Holding) → asks_alone held c ≡ true → goes_up (λ s. 0) held c ≡ true
    by_command (Lock s mode) [] g = refl
    by_command (Lock s mode) (lock ∷ more) g = absurd (false≢true g)
    by_command (Try s mode) held g = g
    by_command (Unlock s mode) held g = g
    by_command (Change s gives_up mode) held g = g
    by_command (DropAll other s) held g = g
    by_command (Withdraw other s) held g = g

pub alone_ranked : (script : ScriptData) → NeverAsksHolding script → IsRanked script (λ s. 0)
alone_ranked script h client known = alone_from script client [] (commands_of script client) (h client known)
