-- Pieces that are read one after the other.
use Rattle.std.proofs.Common.{◌≡◌, ℕ, ◌+◌, ◌≤◌, ◌<◌, List, [], ◌++◌, Option, Some, None, length, refl, ap, arith, ◌∙◌, length-append, suc, ◌-◌, ◌*◌, min, Ok, Err, take, drop, inl, inr, sym, subst, take-add, drop-drop, IfSome, suc-mul, take-append-drop, take_at, length-take-le, length-drop}
use Rattle.std.specs.Prelude.{⊤}
use Rattle.std.specs.Io.KnownBytes.{Consumes, Appends, Keeps}
use Rattle.std.proofs.KnownBytes.{Consumes-nil, Consumes-trans, Appends-trans, Appends-kept}
use Rattle.std.proofs.lemmas.Bool.{cases_lt}
use Rattle.std.proofs.lemmas.List.{take_rest, drop_all}
use Rattle.lt_io.specs.declared.whole.ReadFailure.{ReadFailure}
use Rattle.lt_io.specs.declared.whole.ReadFailure.TheVariants.{Memory}
use Rattle.lt_io.specs.Streams.{Rose, SourceState, ReadsOn, ReadsOut, FailsBy, calls_after, Pace, KeepsPace, WritesByFewest, StopsByFewest}

-- before the first read
pub nothing_read : (s : SourceState) → ReadsOn [] s s
nothing_read s = record {
  consumed = Consumes-nil s.left;
  all_counted = refl;
  none_uncounted = omega arith;
  none_made_up = omega arith;
  no_fault = refl;
  no_end = refl;
}

pub read_more : (a b : List ℕ) (x y z : SourceState) → ReadsOn a x y → ReadsOn b y z → ReadsOn (a ++ b) x z
read_more a b x y z first next = record {
  consumed = Consumes-trans x.left y.left z.left a b first.consumed next.consumed;
  all_counted = omega (arith, length-append a b, first.all_counted, next.all_counted, first.none_uncounted);
  none_uncounted = omega (arith, first.none_uncounted, next.none_uncounted);
  none_made_up = omega (arith, length-append a b, first.none_made_up, next.none_made_up);
  no_fault = next.no_fault ∙ first.no_fault;
  no_end = next.no_end ∙ first.no_end;
}

pub read_out : (a b : List ℕ) (x y z : SourceState) → ReadsOn a x y → ReadsOut b y z → ReadsOut (a ++ b) x z
read_out a b x y z first last = record {
  consumed = Consumes-trans x.left y.left z.left a b first.consumed last.consumed;
  at_end = last.at_end;
  counted = record {
    later = omega (arith, first.none_uncounted, last.counted.later);
    count = omega (arith, length-append a b, first.all_counted, last.counted.count);
  };
  no_more = omega (arith, length-append a b, first.none_made_up, last.no_more);
  no_fault = last.no_fault ∙ first.no_fault;
  ended = record {
    later = omega (arith, last.ended.later, first.no_end);
    count = omega (arith, last.ended.count, first.no_end);
  };
}

-- more was left than might come, and so it was before
longer : (old new : Option (List ℕ)) (a : List ℕ) (room limit : ℕ) → length a + room ≡ limit → Consumes old new a
    → IfSome new (λ bytes. room < length bytes) → IfSome old (λ bytes. limit < length bytes)
longer None new a room limit within taken long = tt
longer (Some xs) None a room limit within taken long = absurd taken
longer (Some xs) (Some ys) a room limit within taken long =
    omega (arith, within, long, length-append a ys, ap (λ (t : List ℕ). length t) taken)

pub fails_later : (why : ReadFailure) (a : List ℕ) (room limit : ℕ) (x y z : SourceState) → length a + room ≡ limit → ReadsOn a x y
    → FailsBy why room y z → FailsBy why limit x z
fails_later why a room limit x y z within first last = record {
  failed = λ e. record {
    later = omega (arith, (last.failed e).later, first.no_fault);
    count = omega (arith, (last.failed e).count, first.no_fault);
  };
  no_other_fault = λ other. last.no_other_fault other ∙ first.no_fault;
  too_long = λ e. record {
    later = omega (arith, first.none_uncounted, (last.too_long e).later);
    count = omega (arith, within, first.all_counted, (last.too_long e).count);
  };
  too_many_left = λ e. longer x.left y.left a room limit within first.consumed (last.too_many_left e);
  no_more = λ other. omega (arith, within, first.none_made_up, last.no_more other);
  none_uncounted = omega (arith, first.none_uncounted, last.none_uncounted);
  part_taken = (a ++ last.part_taken.0, Consumes-trans x.left y.left z.left a last.part_taken.0 first.consumed last.part_taken.1);
  no_end = last.no_end ∙ first.no_end;
}

-- some bytes were read, and then memory was wanting
pub gives_up : (a : List ℕ) (limit : ℕ) (x y : SourceState) → length a ≤ limit → ReadsOn a x y → FailsBy Memory limit x y
gives_up a limit x y within first = record {
  failed = λ e. absurd (cc);
  no_other_fault = λ other. first.no_fault;
  too_long = λ e. absurd (cc);
  too_many_left = λ e. absurd (cc);
  no_more = λ other. omega (arith, within, first.none_made_up);
  none_uncounted = first.none_uncounted;
  part_taken = (a, first.consumed);
  no_end = first.no_end;
}

pub some_given : (bytes : List ℕ) (x y : SourceState) → 0 < length bytes → ReadsOn bytes x y → Rose x.given y.given
some_given bytes x y some read = omega (arith, some, read.all_counted, read.none_uncounted, read.none_made_up)

-- Pieces of known bytes: what is copied from a place on, what one more write appends, and how many writes there were.

-- past the end nothing is left, from wherever it is dropped
pub drop-min : (xs : List ℕ) (at : ℕ) → drop (min at (length xs)) xs ≡ drop at xs
drop-min xs at = elim (cases_lt (length xs) at) [
  | inl past ↦ drop_all (min at (length xs)) xs (omega (arith, past)) ∙ sym (drop_all at xs (omega (arith, past)))
  | inr inside ↦ ap (λ k. drop k xs) (omega (arith, inside))
]

-- n bytes from place `at` on stand at the front of the buffer, and those behind them are left
pub copied_front : (xs front rest : List ℕ) (at start n : ℕ) → start ≡ min at (length xs) → n ≤ length (take (length xs - start) (drop start xs))
    → front ≡ take n (take (length xs - start) (drop start xs)) → drop at xs ≡ take n (front ++ rest) ++ drop (at + n) xs
copied_front xs front rest at start n is_start fits is_front =
    let left : take (length xs - start) (drop start xs) ≡ drop at xs = take_rest xs start ∙ ap (λ k. drop k xs) is_start ∙ drop-min xs at in
    let enough : n ≤ length (drop at xs) = subst (λ l. n ≤ length l) left fits in
    let is_taken : front ≡ take n (drop at xs) = is_front ∙ ap (take n) left in
    let has_length : length front ≡ n = ap length is_taken ∙ length-take-le n (drop at xs) enough in
    sym (take-append-drop n (drop at xs))
    ∙ ap (λ l. l ++ drop n (drop at xs)) (sym is_taken ∙ sym (take_at front rest n has_length))
    ∙ ap (λ l. take n (front ++ rest) ++ l) (drop-drop n at xs)

-- one more write appends the next n bytes
pub Appends-next : (a b c : Option (List ℕ)) (xs : List ℕ) (at n : ℕ) → Appends a b (take at xs) → Appends b c (take n (take (length xs - at) (drop at xs)))
    → Appends a c (take (at + n) xs)
Appends-next a b c xs at n first next =
    subst (Appends a c) (ap (λ l. take at xs ++ take n l) (take_rest xs at) ∙ sym (take-add at n xs)) (Appends-trans a b c _ _ first next)

-- a part of what stands from place `at` on ends within the bytes
pub at_within : (xs : List ℕ) (at n : ℕ) → at ≤ length xs → n ≤ length (take (length xs - at) (drop at xs)) → at + n ≤ length xs
at_within xs at n inside fits = omega (arith, inside, length-drop at xs, subst (λ l. n ≤ length l) (take_rest xs at) fits)

-- the first `at` of so many bytes were written, by as few calls as can be
abbrev pub WroteByFewest : Option Pace → Option Pace → ℕ → ℕ → Type 0
WroteByFewest None new size at = ⊤
WroteByFewest (Some pace) new size at =
    (n : ℕ) × (at ≡ min (n * pace.per_write) size) × ((k : ℕ) → k < n → k * pace.per_write < size) × (0 < n → 0 < pace.per_write) × (new ≡ Some (record pace { calls = calls_after pace.calls n }))

-- before the first write
pub none_written : (pace : Option Pace) (size : ℕ) → WroteByFewest pace pace size 0
none_written None size = tt
none_written (Some pace) size = (0, omega arith, λ k below. absurd (omega (arith, below)), λ some. absurd (omega (arith, some)), refl)

-- one more write of all that is left
pub one_more_write : (E : Type 0) (old mid new : Option Pace) (size at n : ℕ) (piece : List ℕ) → at < size → length piece ≡ size - at → (0 < length piece → 0 < n)
    → WroteByFewest old mid size at → KeepsPace {E = E} mid new (Ok n) piece → WroteByFewest old new size (at + n)
one_more_write E None mid new size at n piece inside is_rest takes few keeps = tt
one_more_write E (Some pace) mid new size at n piece inside is_rest takes (m, is_at, fewer, some, is_mid) keeps =
    let kept = subst (λ (p : Option Pace). KeepsPace {E = E} p new (Ok n) piece) is_mid keeps in
    let product : suc m * pace.per_write ≡ m * pace.per_write + pace.per_write = suc-mul m pace.per_write in (
      suc m,
      omega (arith, product, is_at, inside, is_rest, kept.1),
      λ k below. elim (cases_lt k m) [
        | inl before ↦ fewer k before
        | inr last ↦
            let same : k ≡ m = omega (arith, below, last) in
            subst (λ (i : ℕ). i * pace.per_write < size) (sym same) (omega (arith, is_at, inside))
      ],
      λ _. omega (arith, kept.1, takes (omega (arith, inside, is_rest))),
      kept.0,
    )

-- once all is written
pub all_written : (old new : Option Pace) (size at : ℕ) → size ≤ at → WroteByFewest old new size at → WritesByFewest old new size
all_written None new size at whole few = tt
all_written (Some pace) new size at whole (n, is_at, fewer, some, is_new) = (n, record { enough = omega (arith, whole, is_at); fewer = fewer }, is_new)

-- where one write more fails
pub stops_by_fewest : (E : Type 0) (e : E) (old mid new : Option Pace) (held held_mid held_new : Option (List ℕ)) (bytes : List ℕ) (at : ℕ) (piece : List ℕ)
    → at < length bytes → Appends held held_mid (take at bytes) → Keeps held_mid held_new → WroteByFewest old mid (length bytes) at
    → KeepsPace {E = E} mid new (Err e) piece → StopsByFewest old new held held_new bytes
stops_by_fewest E e None mid new held held_mid held_new bytes at piece inside written kept few keeps = tt
stops_by_fewest E e (Some pace) mid new held held_mid held_new bytes at piece inside written kept (n, is_at, fewer, some, is_mid) keeps =
    let whole : at ≡ n * pace.per_write = omega (arith, is_at, inside) in (
      n,
      record {
        some_each = some;
        not_all = omega (arith, whole, inside);
        written = subst (λ (k : ℕ). Appends held held_new (take k bytes)) whole (Appends-kept held held_mid held_new (take at bytes) written kept);
        counted = (subst (λ (p : Option Pace). KeepsPace {E = E} p new (Err e) piece) is_mid keeps).0;
      },
    )

pub length_of_rest : (xs : List ℕ) (at : ℕ) → length (take (length xs - at) (drop at xs)) ≡ length xs - at
length_of_rest xs at = ap length (take_rest xs at) ∙ length-drop at xs
