-- The pairs that have letters: the receivers, and how many pairs there are.
use Rattle.std.proofs.Common.{◌≡◌, ◌<◌, ◌≤◌, ◌+◌, ◌-◌, ◌^◌, ◌∙◌, ℕ, zero, suc, Bool, true, false, List, [], ◌∷◌, ◌++◌, inl, inr, refl, sym, ap, subst, arith, length, All, drop, sum_by, nat_lt, slice_set, length-set, get_or-set_same, get_or-set_other, ltb-false, lt-ltb}
use Rattle.std.proofs.lemmas.Bool.{cases_eq}
use Rattle.std.proofs.lemmas.List.{drop_all, get_or_default, set-get_or}
use Rattle.std.proofs.lemmas.List.Sums.{sum_by-set, sum_by-le, sum_by-drop_more, get_or-le-sum_by, count_by-le-length}
use Rattle.lt_spec.specs.FixedOrder.{Turn}
use Rattle.lt_inbox.specs.Mail.{has_from, sender_count, senders_to, has_between, put_mark, IsSquare, AreReceivers, AreSummed, takes_of, takes_from, takes_by}
use Rattle.lt_inbox.specs.Bits.{IsFirstFrom, NoneFrom}
use Rattle.lt_inbox.proofs.TakeOrder.{takes_counted, takes_next, takes_more}
use Rattle.lt_inbox.proofs.Marks.{at_receiver, at_other, square_put}
use Rattle.lt_inbox.proofs.Sets.{none_marked, count_more, count_less}

-- The number of pairs.

pub takes_summed : (boxes : List (List Bool)) → length (takes_by boxes) ≡ sum_by sender_count boxes
takes_summed boxes = ap (λ (n : ℕ). length (takes_from boxes 0 n)) all ∙ from (length boxes) 0 (omega arith)
  where
    all : length boxes ≡ length boxes - 0
    all = omega arith

    from : (m q : ℕ) → q + m ≡ length boxes → length (takes_from boxes q (length boxes - q)) ≡ sum_by sender_count (drop q boxes)
    from zero q at =
        let none : length boxes - q ≡ 0 = omega (arith, at) in
        ap (λ (n : ℕ). length (takes_from boxes q n)) none ∙ ap (sum_by sender_count) (sym (drop_all q boxes (omega (arith, at))))
    from (suc m) q at =
        let inside : q < length boxes = omega (arith, at) in
        takes_more boxes q inside
        ∙ (ap (λ (n : ℕ). sender_count (senders_to boxes q) + n) (from m (q + 1) (omega (arith, at)))
        ∙ sym (sum_by-drop_more sender_count boxes q [] inside))

pub few_pairs : (boxes : List (List Bool)) → IsSquare boxes → sum_by sender_count boxes < 2 ^ 16
few_pairs boxes square = omega (arith, sum_by-le sender_count 255 boxes each, square.few)
  where
    each : All (λ (senders : List Bool). sender_count senders ≤ 255) boxes
    each q d inside =
        let all : length (senders_to boxes q) ≡ length boxes = square.senders q inside in
        let some : sender_count (senders_to boxes q) ≤ 255 = omega (arith, count_by-le-length (λ (has : Bool). has) (senders_to boxes q), all, square.few) in
        subst (λ (senders : List Bool). sender_count senders ≤ 255) (get_or_default boxes q [] d inside) some

-- One mark is written.

-- who has letters, once one of the receivers may have others
put_receivers : (boxes : List (List Bool)) (receivers : List Bool) (p q : ℕ) (t : Bool) → AreReceivers boxes receivers → q < length boxes
    → AreReceivers (put_mark boxes p q t) (slice_set receivers q (nat_lt 0 (sender_count (slice_set (senders_to boxes q) p t))))
put_receivers boxes receivers p q t h inside = record {
  count = length-set receivers q some ∙ (h.count ∙ sym (length-set boxes q (slice_set (senders_to boxes q) p t)));
  marks = λ b. elim (cases_eq b q) [
    | inr other ↦
        get_or-set_other receivers q b some false other
        ∙ (h.marks b ∙ ap (λ (senders : List Bool). nat_lt 0 (sender_count senders)) (sym (at_other boxes p q t b other)))
    | inl same ↦ subst (λ (k : ℕ). has_from (slice_set receivers q some) k ≡ nat_lt 0 (sender_count (senders_to (put_mark boxes p q t) k))) (sym same)
        (get_or-set_same receivers q some false (omega (arith, inside, h.count))
        ∙ ap (λ (senders : List Bool). nat_lt 0 (sender_count senders)) (sym (at_receiver boxes p q t inside)))
  ];
}
  where
    some : Bool
    some = nat_lt 0 (sender_count (slice_set (senders_to boxes q) p t))

pub put_summed : (boxes : List (List Bool)) (receivers : List Bool) (pairs p q : ℕ) (t : Bool) → AreSummed boxes receivers pairs → q < length boxes
    → AreSummed (put_mark boxes p q t) (slice_set receivers q (nat_lt 0 (sender_count (slice_set (senders_to boxes q) p t))))
    (pairs + sender_count (slice_set (senders_to boxes q) p t) - sender_count (senders_to boxes q))
put_summed boxes receivers pairs p q t h inside = record {
  square = square_put boxes p q t h.square inside;
  receivers_are = put_receivers boxes receivers p q t h.receivers_are inside;
  counted = omega (arith, h.counted, sum_by-set sender_count boxes q (slice_set (senders_to boxes q) p t) [] inside);
}

own_counted : (boxes : List (List Bool)) (receivers : List Bool) (pairs q : ℕ) → AreSummed boxes receivers pairs → q < length boxes → sender_count (senders_to boxes q) ≤ pairs
own_counted boxes receivers pairs q h inside = omega (arith, h.counted, get_or-le-sum_by sender_count boxes q [] inside)

-- where the mark is as it was, so is all
pub put_again : (boxes : List (List Bool)) (p q : ℕ) (t : Bool) → has_between boxes p q ≡ t → put_mark boxes p q t ≡ boxes
put_again boxes p q t is =
    ap (slice_set boxes q) (ap (slice_set (senders_to boxes q) p) (sym is) ∙ set-get_or (senders_to boxes q) p false) ∙ set-get_or boxes q []

-- one pair more
pub summed_more : (boxes : List (List Bool)) (receivers : List Bool) (pairs p q : ℕ) → AreSummed boxes receivers pairs → p < length boxes → q < length boxes
    → has_between boxes p q ≡ false → AreSummed (put_mark boxes p q true) (slice_set receivers q true) (pairs + 1)
summed_more boxes receivers pairs p q h sender receiver was =
    let more : sender_count (slice_set (senders_to boxes q) p true) ≡ sender_count (senders_to boxes q) + 1 =
    count_more (senders_to boxes q) p (omega (arith, sender, h.square.senders q receiver)) was in
    let some : nat_lt 0 (sender_count (slice_set (senders_to boxes q) p true)) ≡ true = lt-ltb 0 _ (omega (arith, more)) in
    let count : pairs + sender_count (slice_set (senders_to boxes q) p true) - sender_count (senders_to boxes q) ≡ pairs + 1 = omega (arith, more) in
    subst (λ (t : Bool). AreSummed (put_mark boxes p q true) (slice_set receivers q t) (pairs + 1)) some
    (subst (AreSummed (put_mark boxes p q true) (slice_set receivers q (nat_lt 0 (sender_count (slice_set (senders_to boxes q) p true))))) count
    (put_summed boxes receivers pairs p q true h receiver))

-- one pair less
pub summed_less : (boxes : List (List Bool)) (receivers : List Bool) (pairs p q : ℕ) → AreSummed boxes receivers pairs → p < length boxes → q < length boxes
    → has_between boxes p q ≡ true
    → AreSummed (put_mark boxes p q false) (slice_set receivers q (nat_lt 0 (sender_count (slice_set (senders_to boxes q) p false)))) (pairs - 1)
summed_less boxes receivers pairs p q h sender receiver was =
    let less : sender_count (slice_set (senders_to boxes q) p false) + 1 ≡ sender_count (senders_to boxes q) =
    count_less (senders_to boxes q) p (omega (arith, sender, h.square.senders q receiver)) was in
    let count : pairs + sender_count (slice_set (senders_to boxes q) p false) - sender_count (senders_to boxes q) ≡ pairs - 1 = omega (arith, less) in
    subst (AreSummed (put_mark boxes p q false) (slice_set receivers q (nat_lt 0 (sender_count (slice_set (senders_to boxes q) p false))))) count
    (put_summed boxes receivers pairs p q false h receiver)

pub some_counted : (boxes : List (List Bool)) (receivers : List Bool) (pairs p q : ℕ) → AreSummed boxes receivers pairs → p < length boxes → q < length boxes
    → has_between boxes p q ≡ true → 1 ≤ pairs
some_counted boxes receivers pairs p q h sender receiver was =
    omega (arith, own_counted boxes receivers pairs q h receiver, count_less (senders_to boxes q) p (omega (arith, sender, h.square.senders q receiver)) was)

-- no pair at the start
pub none_summed : (boxes : List (List Bool)) (receivers : List Bool) → length boxes < 2 ^ 8 → ((q : ℕ) → q < length boxes → length (senders_to boxes q) ≡ length boxes)
    → ((p q : ℕ) → has_between boxes p q ≡ false) → length receivers ≡ length boxes → NoneFrom receivers 0 → AreSummed boxes receivers 0
none_summed boxes receivers few senders none count unmarked = record {
  square = record { few = few; senders = senders };
  receivers_are = record {
    count = count;
    marks = λ q. unmarked q (omega arith) ∙ sym (ap (nat_lt 0) (no_senders q));
  };
  counted = omega (arith, sum_by-le sender_count 0 boxes (λ q d inside. subst (λ (box : List Bool). sender_count box ≤ 0) (get_or_default boxes q [] d inside) (omega (arith, no_senders q))));
}
  where
    no_senders : (q : ℕ) → sender_count (senders_to boxes q) ≡ 0
    no_senders q = none_marked (senders_to boxes q) (λ p. none p q)

-- The takes of the receivers from one on.

nothing : {X : Type 0} (xs : List X) → length xs ≡ 0 → xs ≡ []
nothing [] e = refl
nothing (x ∷ xs) e = absurd (omega (arith, e))

no_takes : (boxes : List (List Bool)) (receivers : List Bool) (q : ℕ) → AreReceivers boxes receivers → has_from receivers q ≡ false → takes_of q (senders_to boxes q) ≡ []
no_takes boxes receivers q h none =
    nothing (takes_of q (senders_to boxes q))
    (omega (arith, takes_counted q (senders_to boxes q), ltb-false 0 (sender_count (senders_to boxes q)) (sym (h.marks q) ∙ none)))

takes_later : (boxes : List (List Bool)) (receivers : List Bool) (from k : ℕ) → AreReceivers boxes receivers → from ≤ k → k ≤ length boxes
    → ((i : ℕ) → from ≤ i → i < k → has_from receivers i ≡ false) → takes_from boxes from (length boxes - from) ≡ takes_from boxes k (length boxes - k)
takes_later boxes receivers from k h order inside none = go (k - from) from (omega (arith, order)) none
  where
    go : (m from : ℕ) → from + m ≡ k → ((i : ℕ) → from ≤ i → i < k → has_from receivers i ≡ false)
        → takes_from boxes from (length boxes - from) ≡ takes_from boxes k (length boxes - k)
    go zero from at none =
        let same : from ≡ k = omega (arith, at) in
        ap (λ (i : ℕ). takes_from boxes i (length boxes - i)) same
    go (suc m) from at none =
        takes_next boxes from (omega (arith, at, inside))
        ∙ (ap (λ (ts : List Turn). ts ++ takes_from boxes (from + 1) (length boxes - (from + 1))) (no_takes boxes receivers from h (none from (omega arith) (omega (arith, at))))
        ∙ go m (from + 1) (omega (arith, at)) (λ i more less. none i (omega (arith, more)) less))

pub takes_at_first : (boxes : List (List Bool)) (receivers : List Bool) (from k : ℕ) → AreReceivers boxes receivers → IsFirstFrom receivers from k
    → takes_from boxes from (length boxes - from) ≡ takes_from boxes k (length boxes - k)
takes_at_first boxes receivers from k h first = takes_later boxes receivers from k h first.after (omega (arith, first.within, h.count)) first.none

pub no_takes_left : (boxes : List (List Bool)) (receivers : List Bool) (from : ℕ) → AreReceivers boxes receivers → from ≤ length boxes → NoneFrom receivers from
    → takes_from boxes from (length boxes - from) ≡ []
no_takes_left boxes receivers from h inside none =
    takes_later boxes receivers from (length boxes) h inside (omega arith) (λ i more less. none i more) ∙ ap (takes_from boxes (length boxes)) none_left
  where
    none_left : length boxes - length boxes ≡ 0
    none_left = omega arith
