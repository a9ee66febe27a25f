-- A client's commands in order, one request of the script after the other.
use Rattle.std.proofs.Common.{◌≡◌, ℕ, zero, suc, ◌+◌, ◌<◌, List, [], ◌∷◌, length, Option, Some, None, Bool, true, false, refl, sym, ap, arith, ◌∙◌, drop, ◌==◌, ◌&&◌, filter_map, is_some, not, IsTrue, inl, inr, slice_index_or, if◌then◌else◌, ne_eqb}
use Rattle.std.specs.List.{cons_option}
use Rattle.std.proofs.lemmas.Bool.{cases_order, false≢true}
use Rattle.lt_modes.specs.declared.command.Command.{Command}
use Rattle.lt_modes.specs.Script.{ScriptData}
use Rattle.lt_spec.specs.NodeMove.{command_if}
use Rattle.lt_spec.specs.Holdings.{Holding}
use Rattle.lt_spec.specs.Ordered.{holds_none, keeps_order, may_hold_after, is_orderly_from, is_orderly, first_bad}
use Rattle.lt_spec.proofs.FirstBad.{first_bad_is_exact}

drop_first : {X : Type 0} (i : ℕ) (xs : List X) (d : X) → i < length xs → drop i xs ≡ slice_index_or xs i d ∷ drop (i + 1) xs
drop_first i [] d h = absurd (omega (arith, h))
drop_first zero (x ∷ rest) d h = refl
drop_first (suc i) (x ∷ rest) d h =
    let next : suc (i + 1) ≡ suc i + 1 = omega arith in
    drop_first i rest d (omega (arith, h)) ∙ ap (λ (n : ℕ). slice_index_or rest i d ∷ drop n (x ∷ rest)) next

-- the client's commands from the request at this place on
abbrev pub commands_from : ℕ → List (ℕ × Command) → ℕ → List Command
commands_from client requests i = filter_map (command_if client) (drop i requests)

-- from these locks on the client is in order
abbrev pub orderly_at : ScriptData → ℕ → List Holding → List (ℕ × Command) → ℕ → Bool
orderly_at script client locks requests i = is_orderly_from script client locks (commands_from client requests i)

next_commands : (client i : ℕ) (requests : List (ℕ × Command)) (d : ℕ × Command) → i < length requests
    → commands_from client requests i ≡ cons_option (command_if client (slice_index_or requests i d)) (commands_from client requests (i + 1))
next_commands client i requests d h = ap (filter_map (command_if client)) (drop_first i requests d h)

-- a request of the client
pub own_request : (script : ScriptData) (client i : ℕ) (locks : List Holding) (requests : List (ℕ × Command)) (d : ℕ × Command) → i < length requests
    → ((slice_index_or requests i d).0 == client) ≡ true
    → orderly_at script client locks requests i ≡ (keeps_order client locks (slice_index_or requests i d).1
    && orderly_at script client (may_hold_after script client locks (slice_index_or requests i d).1) requests (i + 1))
own_request script client i locks requests d h e =
    ap (is_orderly_from script client locks) (next_commands client i requests d h
    ∙ ap (λ (t : Bool). cons_option (if t then Some (slice_index_or requests i d).1 else None) (commands_from client requests (i + 1))) e)

-- a request of another client
pub other_request : (script : ScriptData) (client i : ℕ) (locks : List Holding) (requests : List (ℕ × Command)) (d : ℕ × Command) → i < length requests
    → ((slice_index_or requests i d).0 == client) ≡ false → orderly_at script client locks requests i ≡ orderly_at script client locks requests (i + 1)
other_request script client i locks requests d h e =
    ap (is_orderly_from script client locks) (next_commands client i requests d h
    ∙ ap (λ (t : Bool). cons_option (if t then Some (slice_index_or requests i d).1 else None) (commands_from client requests (i + 1))) e)

-- all requests are made
pub none_left : (script : ScriptData) (client i : ℕ) (locks : List Holding) (requests : List (ℕ × Command)) → length requests ≡ i
    → commands_from client requests i ≡ []
none_left script client i locks requests h = ap (filter_map (command_if client)) (nothing i requests h)
  where
    nothing : {X : Type 0} (n : ℕ) (xs : List X) → length xs ≡ n → drop n xs ≡ []
    nothing zero [] e = refl
    nothing (suc n) [] e = refl
    nothing zero (x ∷ rest) e = absurd (omega (arith, e))
    nothing (suc n) (x ∷ rest) e = nothing n rest (omega (arith, e))

-- the first client that isn't in order is the one that is told
pub first_is : (script : ScriptData) (client : ℕ) → client < length script.clients → is_orderly script client ≡ false → ((earlier : ℕ) → earlier < client → IsTrue (is_orderly script earlier))
    → first_bad script ≡ Some client
first_is script client inside bad before =
    let exact = first_bad_is_exact script in
    elim (first_bad script) as (λ o. first_bad script ≡ o → o ≡ Some client) [
      | None ↦ λ none. absurd (false≢true (sym bad ∙ exact.0.0 none client inside))
      | Some k ↦ λ told.
          let first = exact.1 k told in
          elim (cases_order k client) [
            | inl same ↦ ap Some same
            | inr (inl less) ↦ absurd (false≢true (sym first.1 ∙ before k less))
            | inr (inr more) ↦ absurd (false≢true (sym bad ∙ first.2 client more))
          ]
    ] refl

-- nothing is found exactly where the answer is none
pub none_is : {X : Type 0} (o : Option X) (t : Bool) → is_some o ≡ not t → t ≡ true → o ≡ None
none_is None t e h = refl
none_is (Some x) true e h = cc
none_is (Some x) false e h = cc

pub none_told : {X : Type 0} (o : Option X) (t : Bool) → is_some o ≡ not t → o ≡ None → t ≡ true
none_told o true e h = refl
none_told o false e h = absurd (false≢true (sym (ap is_some h) ∙ e))

-- no lock is held where their number is 0
pub none_by_count : (n : ℕ) (locks : List Holding) → n ≡ length locks → (n == 0) ≡ holds_none locks
none_by_count n [] e = ap (λ (k : ℕ). k == 0) e
none_by_count n (lock ∷ rest) e = ne_eqb n 0 (λ none. omega (arith, e, none))
