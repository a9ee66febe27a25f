-- Reading values one after the other, as a loop does.
use Rattle.std.proofs.Common.{◌≡◌, ℕ, zero, suc, ◌-◌, ◌+◌, ◌≤◌, ◌<◌, List, [], ◌∷◌, ◌++◌, Result, Ok, Err, refl, sym, ap, ◌∙◌, append_assoc, arith, take, take_all, length, slice_set}
use Rattle.std.proofs.lemmas.List.{append-nil}
use Rattle.lt_letters.specs.declared.fault.Fault.{Fault}
use Rattle.lt_letters.specs.declared.fault.ReadError.{ReadError}
use Rattle.lt_letters.specs.declared.fault.ReadError.TheVariants as errors
use Rattle.lt_letters.specs.Reading.{◌>>=◌, many_from}
use Rattle.lt_letters.specs.Seen.{Fails}

-- what was read before, and what is still read
abbrev pub with_front : {A : Type 0} → List A → Result (List A × List ℕ) Fault → Result (List A × List ℕ) Fault
with_front front read = read >>= λ x. Ok (front ++ x.0, x.1)

pub none_before : {A : Type 0} (read : Result (List A × List ℕ) Fault) → with_front [] read ≡ read
none_before (Ok x) = refl
none_before (Err f) = refl

regroup : {A : Type 0} (front : List A) (n : A) (read : Result (List A × List ℕ) Fault) → with_front front (read >>= λ x. Ok (n ∷ x.0, x.1)) ≡ with_front (front ++ n ∷ []) read
regroup {A = A} front n (Ok x) = ap (λ (ns : List A). Ok (ns, x.1)) (sym (append_assoc front (n ∷ []) x.0))
regroup front n (Err f) = refl

pub goes_on : {A : Type 0} (read : List ℕ → Result (A × List ℕ) Fault) (front : List A) (count i : ℕ) (bytes : List ℕ) (n : A) (after : List ℕ) (total : Result (List A × List ℕ) Fault)
    → i < count → read bytes ≡ Ok (n, after)
    → with_front front (many_from read (count - i) bytes) ≡ total → with_front (front ++ n ∷ []) (many_from read (count - (i + 1)) after) ≡ total
unfolding many_from
goes_on read front count i bytes n after total lt h so_far =
    let k : count - i ≡ suc (count - (i + 1)) = omega arith in
    let one : with_front front (many_from read (count - i) bytes) ≡ with_front (front ++ n ∷ []) (many_from read (count - (i + 1)) after) = rw (k, h) (regroup front n (many_from read (count - (i + 1)) after)) in
    sym one ∙ so_far

pub stops : {A : Type 0} (read : List ℕ → Result (A × List ℕ) Fault) (f : Fault) (front : List A) (count i : ℕ) (bytes : List ℕ) (total : Result (List A × List ℕ) Fault)
    → i < count → read bytes ≡ Err f → with_front front (many_from read (count - i) bytes) ≡ total → total ≡ Err f
unfolding many_from
stops read f front count i bytes total lt h so_far =
    let k : count - i ≡ suc (count - (i + 1)) = omega arith in
    let one : with_front front (many_from read (count - i) bytes) ≡ Err f = rw (k, h) refl in
    sym so_far ∙ one

pub ends : {A : Type 0} (read : List ℕ → Result (A × List ℕ) Fault) (e : ReadError) (front : List A) (count i : ℕ) (bytes : List ℕ) (total : Result (List A × List ℕ) Fault)
    → i < count → Fails e (read bytes) → with_front front (many_from read (count - i) bytes) ≡ total → Fails e total
ends read errors.Memory front count i bytes total lt h so_far = tt
ends read (errors.Fault f) front count i bytes total lt h so_far = stops read f front count i bytes total lt h so_far

pub is_done : {A : Type 0} (read : List ℕ → Result (A × List ℕ) Fault) (front : List A) (count i : ℕ) (bytes : List ℕ) (total : Result (List A × List ℕ) Fault)
    → count ≤ i → with_front front (many_from read (count - i) bytes) ≡ total → total ≡ Ok (front, bytes)
unfolding many_from
is_done {A = A} read front count i bytes total le so_far =
    let k : count - i ≡ 0 = omega arith in
    let one : with_front front (many_from read (count - i) bytes) ≡ Ok (front, bytes) = rw k (ap (λ (ns : List A). Ok (ns, bytes)) (append-nil front)) in
    sym so_far ∙ one

-- the first items of a list, once the next one was set
pub take_set : {A : Type 0} (xs : List A) (i : ℕ) (x : A) → i < length xs → take (i + 1) (slice_set xs i x) ≡ take i xs ++ x ∷ []
take_set [] i x h = absurd (omega (arith, h))
take_set (y ∷ ys) zero x h = refl
take_set {A = A} (y ∷ ys) (suc i) x h =
    let on : suc i + 1 ≡ suc (i + 1) = omega arith in
    ap (λ (n : ℕ). take n (slice_set (y ∷ ys) (suc i) x)) on ∙ ap (λ (list : List A). y ∷ list) (take_set ys i x (omega (arith, h)))

set_length : {A : Type 0} (xs : List A) (i : ℕ) (x : A) → length (slice_set xs i x) ≡ length xs
set_length [] i x = refl
set_length (y ∷ ys) zero x = refl
set_length (y ∷ ys) (suc i) x = ap suc (set_length ys i x)

-- reading into the places of a list
pub set_goes_on : {A : Type 0} (read : List ℕ → Result (A × List ℕ) Fault) (xs new : List A) (count i : ℕ) (bytes : List ℕ) (n : A) (after : List ℕ) (total : Result (List A × List ℕ) Fault)
    → new ≡ slice_set xs i n → length xs ≡ count → i < count → read bytes ≡ Ok (n, after)
    → with_front (take i xs) (many_from read (count - i) bytes) ≡ total
    → (length new ≡ count) × (with_front (take (i + 1) new) (many_from read (count - (i + 1)) after) ≡ total)
set_goes_on {A = A} read xs new count i bytes n after total is len lt h so_far =
    let next = goes_on read (take i xs) count i bytes n after total lt h so_far in
    let front : take (i + 1) new ≡ take i xs ++ n ∷ [] = ap (λ (list : List A). take (i + 1) list) is ∙ take_set xs i n (omega (arith, lt, len)) in
    (ap length is ∙ (set_length xs i n ∙ len), ap (λ (list : List A). with_front list (many_from read (count - (i + 1)) after)) front ∙ next)

pub set_is_done : {A : Type 0} (read : List ℕ → Result (A × List ℕ) Fault) (xs : List A) (count i : ℕ) (bytes : List ℕ) (total : Result (List A × List ℕ) Fault)
    → length xs ≡ count → count ≤ i → with_front (take i xs) (many_from read (count - i) bytes) ≡ total → total ≡ Ok (xs, bytes)
set_is_done {A = A} read xs count i bytes total len le so_far =
    is_done read (take i xs) count i bytes total le so_far ∙ ap (λ (list : List A). Ok (list, bytes)) (take_all i xs (omega (arith, len, le)))

-- Passing over values, one after the other: some stand before the place that a loop came to.

abbrev pub IsPast : {A : Type 0} → (List ℕ → Result (A × List ℕ) Fault) → ℕ → ℕ → List ℕ → List ℕ → Type 0
IsPast {A} read count i bytes rest = (front : List A) × (with_front front (many_from read (count - i) rest) ≡ many_from read count bytes)

pub past_none : {A : Type 0} (read : List ℕ → Result (A × List ℕ) Fault) (count : ℕ) (bytes : List ℕ) → IsPast read count 0 bytes bytes
past_none {A = A} read count bytes =
    let all : count - 0 ≡ count = omega arith in
    ([], ap (λ (n : ℕ). with_front {A = A} [] (many_from read n bytes)) all ∙ none_before (many_from read count bytes))

pub past_next : {A : Type 0} (read : List ℕ → Result (A × List ℕ) Fault) (count i : ℕ) (bytes rest : List ℕ) (x : A) (after : List ℕ)
    → i < count → read rest ≡ Ok (x, after) → IsPast read count i bytes rest → IsPast read count (i + 1) bytes after
past_next read count i bytes rest x after lt e h =
    (h.0 ++ x ∷ [], goes_on read h.0 count i rest x after (many_from read count bytes) lt e h.1)

pub past_fails : {A : Type 0} (read : List ℕ → Result (A × List ℕ) Fault) (f : Fault) (count i : ℕ) (bytes rest : List ℕ)
    → i < count → read rest ≡ Err f → IsPast read count i bytes rest → many_from read count bytes ≡ Err f
past_fails read f count i bytes rest lt e h = stops read f h.0 count i rest (many_from read count bytes) lt e h.1

pub past_all : {A : Type 0} (read : List ℕ → Result (A × List ℕ) Fault) (count i : ℕ) (bytes rest : List ℕ)
    → count ≤ i → IsPast read count i bytes rest → (xs : List A) × (many_from read count bytes ≡ Ok (xs, rest))
past_all read count i bytes rest le h = (h.0, is_done read h.0 count i rest (many_from read count bytes) le h.1)
