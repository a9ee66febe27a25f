-- How many letters are on their way between nodes, once one more or one less is.
use Rattle.std.proofs.Common.{◌≡◌, ◌≢◌, ◌<◌, ◌≤◌, ◌+◌, ◌-◌, ◌∙◌, ◌^◌, ℕ, suc, Bool, true, false, List, [], ◌∷◌, ◌++◌, length, inl, inr, refl, sym, ap, subst, arith, nat_lt, lt-ltb, slice_set, append-nil, length-set, length-append, get_or-set_same, get_or-set_other}
use Rattle.std.proofs.lemmas.Bool.{cases_eq}
use Rattle.lt_modes.specs.State.{Letter}
use Rattle.lt_spec.specs.World.{is_some_letter}
use Rattle.lt_inbox.specs.Mail.{SentData, AreMarked, IsSquare, goes, letters_between, sent_of, put_mark, senders_to, has_between}
use Rattle.lt_inbox.specs.Counts.{count_from, counts_to, count_between, put_count, AreCountedBetween, AreNoted}
use Rattle.lt_inbox.proofs.Marks.{with_letter, between_cons, between_append, one_own, one_other, marked, marked_back, marked_front}

-- no more letters go from one to another than are on their way
pub between_few : (p q : ℕ) (sent : List SentData) → length (letters_between p q sent) ≤ length sent
between_few p q [] = omega arith
between_few p q (one ∷ rest) =
    elim (goes p q one) as (λ t. goes p q one ≡ t → length (letters_between p q (one ∷ rest)) ≤ suc (length rest)) [
      | true ↦ λ e.
          let is : length (letters_between p q (one ∷ rest)) ≡ suc (length (letters_between p q rest)) =
          ap length (between_cons p q one rest ∙ ap (λ (t : Bool). with_letter t one.letter (letters_between p q rest)) e) in
          omega (arith, is, between_few p q rest)
      | false ↦ λ e.
          let is : length (letters_between p q (one ∷ rest)) ≡ length (letters_between p q rest) =
          ap length (between_cons p q one rest ∙ ap (λ (t : Bool). with_letter t one.letter (letters_between p q rest)) e) in
          omega (arith, is, between_few p q rest)
    ] refl

-- so counting one more stays in bounds
pub few_counted : (boxes : List (List Bool)) (rows : List (List ℕ)) (sent : List SentData) (p q room : ℕ) → AreNoted boxes rows sent → p < length boxes → q < length boxes
    → length sent < room → room < 2 ^ 63 → count_between rows p q + 1 < 2 ^ 64
few_counted boxes rows sent p q room h sender receiver few small =
    omega (arith, few, small, between_few p q sent, h.counted.counts p q (omega (arith, sender, h.nodes)) (omega (arith, receiver, h.nodes)))

-- a letter that is on its way is counted
pub one_counted : (boxes : List (List Bool)) (rows : List (List ℕ)) (sent : List SentData) (p q : ℕ) → AreNoted boxes rows sent → p < length boxes → q < length boxes
    → 0 < length (letters_between p q sent) → 0 < count_between rows p q
one_counted boxes rows sent p q h sender receiver some =
    omega (arith, some, h.counted.counts p q (omega (arith, sender, h.nodes)) (omega (arith, receiver, h.nodes)))

row_at : (rows : List (List ℕ)) (p q n : ℕ) → q < length rows → counts_to (put_count rows p q n) q ≡ slice_set (counts_to rows q) p n
row_at rows p q n inside = get_or-set_same rows q (slice_set (counts_to rows q) p n) [] inside

row_else : (rows : List (List ℕ)) (p q n b : ℕ) → b ≢ q → counts_to (put_count rows p q n) b ≡ counts_to rows b
row_else rows p q n b apart = get_or-set_other rows q b (slice_set (counts_to rows q) p n) [] apart

count_same : (rows : List (List ℕ)) (p q n : ℕ) → q < length rows → p < length (counts_to rows q) → count_between (put_count rows p q n) p q ≡ n
count_same rows p q n inside within =
    ap (λ (row : List ℕ). count_from row p) (row_at rows p q n inside) ∙ get_or-set_same (counts_to rows q) p n 0 within

count_other : (rows : List (List ℕ)) (p q n a b : ℕ) → q < length rows → (a ≡ p → b ≡ q → ⊥) → count_between (put_count rows p q n) a b ≡ count_between rows a b
count_other rows p q n a b inside apart = elim (cases_eq b q) [
  | inr other ↦ ap (λ (row : List ℕ). count_from row a) (row_else rows p q n b other)
  | inl same ↦
      let here : count_between (put_count rows p q n) a q ≡ count_between rows a q =
      ap (λ (row : List ℕ). count_from row a) (row_at rows p q n inside) ∙ get_or-set_other (counts_to rows q) p a n 0 (λ e. apart e same) in
      subst (λ (k : ℕ). count_between (put_count rows p q n) a k ≡ count_between rows a k) (sym same) here
]

row_length : (rows : List (List ℕ)) (p q n b : ℕ) → q < length rows → length (counts_to (put_count rows p q n) b) ≡ length (counts_to rows b)
row_length rows p q n b inside = elim (cases_eq b q) [
  | inr other ↦ ap length (row_else rows p q n b other)
  | inl same ↦
      let here : length (counts_to (put_count rows p q n) q) ≡ length (counts_to rows q) =
      ap length (row_at rows p q n inside) ∙ length-set (counts_to rows q) p n in
      subst (λ (k : ℕ). length (counts_to (put_count rows p q n) k) ≡ length (counts_to rows k)) (sym same) here
]

-- only the letters from p to q changed
counted : (rows : List (List ℕ)) (sent now : List SentData) (p q n : ℕ) → AreCountedBetween rows sent → p < length rows → q < length rows
    → n ≡ length (letters_between p q now) → ((a b : ℕ) → (a ≡ p → b ≡ q → ⊥) → letters_between a b now ≡ letters_between a b sent)
    → AreCountedBetween (put_count rows p q n) now
counted rows sent now p q n h sender receiver own others = record {
  senders = λ b below. row_length rows p q n b receiver ∙ (h.senders b (omega (arith, below, same)) ∙ sym same);
  counts = λ a b la lb. count_is a b (omega (arith, la, same)) (omega (arith, lb, same));
}
  where
    same : length (put_count rows p q n) ≡ length rows
    same = length-set rows q (slice_set (counts_to rows q) p n)

    apart_is : (a b : ℕ) → a < length rows → b < length rows → (a ≡ p → b ≡ q → ⊥) → count_between (put_count rows p q n) a b ≡ length (letters_between a b now)
    apart_is a b la lb apart = count_other rows p q n a b receiver apart ∙ (h.counts a b la lb ∙ ap length (sym (others a b apart)))

    count_is : (a b : ℕ) → a < length rows → b < length rows → count_between (put_count rows p q n) a b ≡ length (letters_between a b now)
    count_is a b la lb = elim (cases_eq a p) [
      | inr other ↦ apart_is a b la lb (λ e f. other e)
      | inl from ↦ elim (cases_eq b q) [
        | inr other ↦ apart_is a b la lb (λ e f. other f)
        | inl to ↦
            let here : count_between (put_count rows p q n) p q ≡ length (letters_between p q now) =
            count_same rows p q n receiver (omega (arith, sender, h.senders q receiver)) ∙ own in
            subst (λ (i : ℕ). count_between (put_count rows p q n) i b ≡ length (letters_between i b now)) (sym from)
            (subst (λ (i : ℕ). count_between (put_count rows p q n) p i ≡ length (letters_between p i now)) (sym to) here)
      ]
    ]

length_put : (boxes : List (List Bool)) (rows : List (List ℕ)) (p q n : ℕ) (t : Bool) → length rows ≡ length boxes
    → length (put_count rows p q n) ≡ length (put_mark boxes p q t)
length_put boxes rows p q n t h =
    length-set rows q (slice_set (counts_to rows q) p n) ∙ (h ∙ sym (length-set boxes q (slice_set (senders_to boxes q) p t)))

-- a letter more behind the others
pub noted_back : (boxes : List (List Bool)) (rows : List (List ℕ)) (sent : List SentData) (p q : ℕ) (letter : Letter) → AreNoted boxes rows sent
    → p < length boxes → q < length boxes
    → AreNoted (put_mark boxes p q true) (put_count rows p q (count_between rows p q + 1)) (sent ++ sent_of p q letter ∷ [])
noted_back boxes rows sent p q letter h sender receiver = record {
  marked = marked_back boxes sent p q letter h.marked sender receiver;
  nodes = length_put boxes rows p q (count_between rows p q + 1) true h.nodes;
  counted = counted rows sent (sent ++ one ∷ []) p q (count_between rows p q + 1) h.counted from to
      (omega (arith, h.counted.counts p q from to, ap length own, length-append (letters_between p q sent) (letter ∷ [])))
      (λ a b apart. between_append a b sent (one ∷ [])
      ∙ (ap (λ (ls : List Letter). letters_between a b sent ++ ls) (one_other p q letter [] a b apart) ∙ append-nil (letters_between a b sent)));
}
  where
    one : SentData
    one = sent_of p q letter

    from : p < length rows
    from = omega (arith, sender, h.nodes)

    to : q < length rows
    to = omega (arith, receiver, h.nodes)

    own : letters_between p q (sent ++ one ∷ []) ≡ letters_between p q sent ++ letter ∷ []
    own = between_append p q sent (one ∷ []) ∙ ap (λ (ls : List Letter). letters_between p q sent ++ ls) (one_own p q letter [])

-- or before them
pub noted_front : (boxes : List (List Bool)) (rows : List (List ℕ)) (sent : List SentData) (p q : ℕ) (letter : Letter) → AreNoted boxes rows sent
    → p < length boxes → q < length boxes
    → AreNoted (put_mark boxes p q true) (put_count rows p q (count_between rows p q + 1)) (sent_of p q letter ∷ sent)
noted_front boxes rows sent p q letter h sender receiver = record {
  marked = marked_front boxes sent p q letter h.marked sender receiver;
  nodes = length_put boxes rows p q (count_between rows p q + 1) true h.nodes;
  counted = counted rows sent (sent_of p q letter ∷ sent) p q (count_between rows p q + 1) h.counted from to
      (omega (arith, h.counted.counts p q from to, own)) (λ a b apart. one_other p q letter sent a b apart);
}
  where
    from : p < length rows
    from = omega (arith, sender, h.nodes)

    to : q < length rows
    to = omega (arith, receiver, h.nodes)

    own : length (letters_between p q (sent_of p q letter ∷ sent)) ≡ suc (length (letters_between p q sent))
    own = ap length (one_own p q letter sent)

more_than_one : (ls : List Letter) (n : ℕ) → n ≡ suc (length ls) → is_some_letter ls ≡ nat_lt 1 n
more_than_one [] n e = sym (ap (nat_lt 1) e)
more_than_one (l ∷ ls) n e = sym (lt-ltb 1 n (omega (arith, e)))

-- the front one less
pub noted_less : (boxes : List (List Bool)) (rows : List (List ℕ)) (sent left : List SentData) (p q : ℕ) (letter : Letter) → AreNoted boxes rows sent
    → p < length boxes → q < length boxes → letters_between p q sent ≡ letter ∷ letters_between p q left
    → ((a b : ℕ) → (a ≡ p → b ≡ q → ⊥) → letters_between a b left ≡ letters_between a b sent)
    → AreNoted (put_mark boxes p q (nat_lt 1 (count_between rows p q))) (put_count rows p q (count_between rows p q - 1)) left
noted_less boxes rows sent left p q letter h sender receiver front others = record {
  marked = marked boxes sent left p q (nat_lt 1 (count_between rows p q)) h.marked sender receiver (more_than_one (letters_between p q left) (count_between rows p q) was) others;
  nodes = length_put boxes rows p q (count_between rows p q - 1) (nat_lt 1 (count_between rows p q)) h.nodes;
  counted = counted rows sent left p q (count_between rows p q - 1) h.counted from to (omega (arith, was)) others;
}
  where
    from : p < length rows
    from = omega (arith, sender, h.nodes)

    to : q < length rows
    to = omega (arith, receiver, h.nodes)

    was : count_between rows p q ≡ suc (length (letters_between p q left))
    was = h.counted.counts p q from to ∙ ap length front

-- no letters
pub none_noted : (boxes : List (List Bool)) (rows : List (List ℕ)) (nodes : ℕ) → IsSquare boxes → length boxes ≡ nodes → ((p q : ℕ) → has_between boxes p q ≡ false)
    → length rows ≡ nodes → ((q : ℕ) → q < nodes → length (counts_to rows q) ≡ nodes) → ((p q : ℕ) → count_between rows p q ≡ 0) → AreNoted boxes rows []
none_noted boxes rows nodes square receivers empty same senders none = record {
  marked = record { square = square; marks = λ p q lp lq. empty p q };
  nodes = same ∙ sym receivers;
  counted = record {
    senders = λ q below. senders q (omega (arith, below, same)) ∙ sym same;
    counts = λ p q lp lq. none p q;
  };
}

pub letters_noted : (boxes : List (List Bool)) (rows : List (List ℕ)) (sent : List SentData) (p q : ℕ) → AreNoted boxes rows sent → p < length boxes → q < length boxes
    → has_between boxes p q ≡ is_some_letter (letters_between p q sent)
letters_noted boxes rows sent p q h sender receiver = h.marked.marks p q sender receiver
