-- The senders of letters that are on their way to one node.
use Rattle.std.proofs.Common.{◌≡◌, Bool, true, false, ℕ, zero, suc, ◌+◌, ◌-◌, ◌<◌, List, [], ◌∷◌, ◌++◌, length, filter, replicate, refl, sym, ap, subst, ◌∙◌, arith, append_assoc, ◌≤◌, map, flat_map, length-append, if◌then◌else◌, count_by, slice_get}
use Rattle.std.proofs.lemmas.List.{length_push, length-map}
use Rattle.std.specs.List.{range_with_len}
use Rattle.std.proofs.lemmas.List.Sums.{count_by-le-length, length-filter, sum_by-cons}
use Rattle.lt_spec.specs.FixedOrder.{Turn, take_turn}
use Rattle.lt_spec.specs.World.{is_some_letter}
use Rattle.lt_inbox.specs.Mail.{has_from, sender_count, senders_in, senders_to, mail_in, SentData, AreMarked, takes_of, takes_from, takes_by, takes_in}

pub counted_first : (has : Bool) (rest : List Bool) → sender_count (has ∷ rest) ≡ (if has then 1 else 0) + sender_count rest
counted_first has rest = sum_by-cons (λ (b : Bool). if b then 1 else 0) has rest

pub none_from : (n p : ℕ) → has_from (replicate n false) p ≡ false
none_from zero p = refl
none_from (suc n) zero = refl
none_from (suc n) (suc p) = none_from n p

pub none_counted : (n : ℕ) → sender_count (replicate n false) ≡ 0
none_counted zero = refl
none_counted (suc n) = omega (arith, counted_first false (replicate n false), none_counted n)

-- where one sender has no letter, not all have
pub fewer_senders : (senders : List Bool) (p : ℕ) → p < length senders → has_from senders p ≡ false → sender_count senders < length senders
fewer_senders [] p inside none = absurd (omega (arith, inside))
fewer_senders (has ∷ rest) zero inside none =
    let first : sender_count (has ∷ rest) ≡ (if false then 1 else 0) + sender_count rest = counted_first has rest ∙ ap (λ (b : Bool). (if b then 1 else 0) + sender_count rest) none in
    omega (arith, first, count_by-le-length (λ (b : Bool). b) rest)
fewer_senders (true ∷ rest) (suc p) inside none = omega (arith, counted_first true rest, fewer_senders rest p (omega (arith, inside)) none)
fewer_senders (false ∷ rest) (suc p) inside none = omega (arith, counted_first false rest, fewer_senders rest p (omega (arith, inside)) none)

-- the numbers from here on, where some are left
pub range_more : (k n : ℕ) → k < n → range_with_len k (n - k) ≡ k ∷ range_with_len (k + 1) (n - (k + 1))
range_more k n h =
    let left : n - k ≡ suc (n - (k + 1)) = omega arith in
    ap (range_with_len k) left

abbrev pub filter_first : (ℕ → Bool) → ℕ → List ℕ → List ℕ
filter_first test k rest = if test k then k ∷ filter test rest else filter test rest

-- one that doesn't pass
pub filter_skips : (test : ℕ → Bool) (k n : ℕ) → k < n → test k ≡ false → filter test (range_with_len k (n - k)) ≡ filter test (range_with_len (k + 1) (n - (k + 1)))
filter_skips test k n h e =
    ap (filter test) (range_more k n h)
    ∙ ap (λ (b : Bool). if b then k ∷ filter test (range_with_len (k + 1) (n - (k + 1))) else filter test (range_with_len (k + 1) (n - (k + 1)))) e

-- one that passes
pub filter_keeps : (test : ℕ → Bool) (k n : ℕ) → k < n → test k ≡ true → filter test (range_with_len k (n - k)) ≡ k ∷ filter test (range_with_len (k + 1) (n - (k + 1)))
filter_keeps test k n h e =
    ap (filter test) (range_more k n h)
    ∙ ap (λ (b : Bool). if b then k ∷ filter test (range_with_len (k + 1) (n - (k + 1))) else filter test (range_with_len (k + 1) (n - (k + 1)))) e

-- senders are as many as marks
pub senders_counted : (senders : List Bool) → length (senders_in senders) ≡ sender_count senders
senders_counted senders = length-filter (has_from senders) (range_with_len 0 (length senders)) ∙ from [] senders
  where
    same : (before : List Bool) (has : Bool) (rest : List Bool) → has_from (before ++ has ∷ rest) (length before) ≡ has
    same [] has rest = refl
    same (b ∷ before) has rest = same before has rest

    from : (before rest : List Bool) → count_by (has_from (before ++ rest)) (range_with_len (length before) (length rest)) ≡ sender_count rest
    from before [] = refl
    from before (has ∷ rest) =
        let all = before ++ has ∷ rest in
        let again : count_by (has_from all) (range_with_len (length before + 1) (length rest)) ≡ sender_count rest =
        subst (λ (n : ℕ). count_by (has_from all) (range_with_len n (length rest)) ≡ sender_count rest) (length_push before has)
        (subst (λ (xs : List Bool). count_by (has_from xs) (range_with_len (length (before ++ has ∷ [])) (length rest)) ≡ sender_count rest)
        (append_assoc before (has ∷ []) rest) (from (before ++ has ∷ []) rest)) in
        sum_by-cons (λ p. if has_from all p then 1 else 0) (length before) (range_with_len (length before + 1) (length rest))
        ∙ (ap (λ (n : ℕ). (if has_from all (length before) then 1 else 0) + n) again
        ∙ (ap (λ (t : Bool). (if t then 1 else 0) + sender_count rest) (same before has rest)
        ∙ sym (counted_first has rest)))

-- The takes of some receivers, one receiver after another.

pub takes_counted : (q : ℕ) (senders : List Bool) → length (takes_of q senders) ≡ sender_count senders
takes_counted q senders = length-map (senders_in senders) (take_turn q) ∙ senders_counted senders

-- those of one receiver come first
pub takes_next : (inboxes : List (List Bool)) (q : ℕ) → q < length inboxes
    → takes_from inboxes q (length inboxes - q) ≡ takes_of q (senders_to inboxes q) ++ takes_from inboxes (q + 1) (length inboxes - (q + 1))
takes_next inboxes q h = ap (flat_map (λ r. takes_of r (senders_to inboxes r))) (range_more q (length inboxes) h)

pub takes_more : (inboxes : List (List Bool)) (q : ℕ) → q < length inboxes
    → length (takes_from inboxes q (length inboxes - q)) ≡ sender_count (senders_to inboxes q) + length (takes_from inboxes (q + 1) (length inboxes - (q + 1)))
takes_more inboxes q h =
    ap length (takes_next inboxes q h)
    ∙ (length-append (takes_of q (senders_to inboxes q)) (takes_from inboxes (q + 1) (length inboxes - (q + 1)))
    ∙ ap (λ (n : ℕ). n + length (takes_from inboxes (q + 1) (length inboxes - (q + 1)))) (takes_counted q (senders_to inboxes q)))

get_front : {X : Type 0} (xs ys : List X) (k : ℕ) → k < length xs → slice_get (xs ++ ys) k ≡ slice_get xs k
get_front [] ys k h = absurd (omega (arith, h))
get_front (x ∷ xs) ys zero h = refl
get_front (x ∷ xs) ys (suc k) h = get_front xs ys k (omega (arith, h))

get_back : {X : Type 0} (xs ys : List X) (k : ℕ) → length xs ≤ k → slice_get (xs ++ ys) k ≡ slice_get ys (k - length xs)
get_back [] ys k h = ap (slice_get ys) (omega arith)
get_back (x ∷ xs) ys zero h = absurd (omega (arith, h))
get_back (x ∷ xs) ys (suc k) h =
    let less : k - length xs ≡ suc k - suc (length xs) = omega arith in
    get_back xs ys k (omega (arith, h)) ∙ ap (slice_get ys) less

-- the take at a place of this receiver
pub take_here : (inboxes : List (List Bool)) (q k : ℕ) → q < length inboxes → k < sender_count (senders_to inboxes q)
    → slice_get (takes_from inboxes q (length inboxes - q)) k ≡ slice_get (takes_of q (senders_to inboxes q)) k
take_here inboxes q k h less =
    ap (λ (ts : List Turn). slice_get ts k) (takes_next inboxes q h)
    ∙ get_front (takes_of q (senders_to inboxes q)) (takes_from inboxes (q + 1) (length inboxes - (q + 1))) k (omega (arith, less, takes_counted q (senders_to inboxes q)))

-- or of a later one
pub take_later : (inboxes : List (List Bool)) (q k : ℕ) → q < length inboxes → sender_count (senders_to inboxes q) ≤ k
    → slice_get (takes_from inboxes q (length inboxes - q)) k ≡ slice_get (takes_from inboxes (q + 1) (length inboxes - (q + 1))) (k - sender_count (senders_to inboxes q))
take_later inboxes q k h more =
    let count = takes_counted q (senders_to inboxes q) in
    ap (λ (ts : List Turn). slice_get ts k) (takes_next inboxes q h)
    ∙ (get_back (takes_of q (senders_to inboxes q)) (takes_from inboxes (q + 1) (length inboxes - (q + 1))) k (omega (arith, more, count))
    ∙ ap (λ (n : ℕ). slice_get (takes_from inboxes (q + 1) (length inboxes - (q + 1))) (k - n)) count)

-- the same numbers pass
pub filter_same : (f g : ℕ → Bool) (k n : ℕ) → ((i : ℕ) → i < k + n → f i ≡ g i) → filter f (range_with_len k n) ≡ filter g (range_with_len k n)
filter_same f g k zero same = refl
filter_same f g k (suc n) same =
    ap (λ (t : Bool). if t then k ∷ filter f (range_with_len (k + 1) n) else filter f (range_with_len (k + 1) n)) (same k (omega arith))
    ∙ ap (λ (xs : List ℕ). if g k then k ∷ xs else xs) (filter_same f g (k + 1) n (λ i h. same i (omega (arith, h))))

pub flat_map_same : {X : Type 0} (f g : ℕ → List X) (k n : ℕ) → ((i : ℕ) → i < k + n → f i ≡ g i) → flat_map f (range_with_len k n) ≡ flat_map g (range_with_len k n)
flat_map_same f g k zero same = refl
flat_map_same {X = X} f g k (suc n) same =
    ap (λ (xs : List X). xs ++ flat_map f (range_with_len (k + 1) n)) (same k (omega arith))
    ∙ ap (λ (xs : List X). g k ++ xs) (flat_map_same f g (k + 1) n (λ i h. same i (omega (arith, h))))

-- the takes by the marks are those by the letters
pub takes_marked : (boxes : List (List Bool)) (sent : List SentData) (free : ℕ) → AreMarked boxes sent
    → takes_by boxes ≡ takes_in (record { nodes = length boxes; sent = sent; free = free })
takes_marked boxes sent free h =
    flat_map_same (λ q. takes_of q (senders_to boxes q)) (λ q. map (take_turn q) (filter (letters_from q) (range_with_len 0 (length boxes)))) 0 (length boxes)
    (λ q below. ap (map (take_turn q)) (senders_are q (omega (arith, below))))
  where
    letters_from : ℕ → ℕ → Bool
    letters_from q p = is_some_letter (mail_in (record { nodes = length boxes; sent = sent; free = free }) p q)

    senders_are : (q : ℕ) → q < length boxes → senders_in (senders_to boxes q) ≡ filter (letters_from q) (range_with_len 0 (length boxes))
    senders_are q inside =
        ap (λ (n : ℕ). filter (has_from (senders_to boxes q)) (range_with_len 0 n)) (h.square.senders q inside)
        ∙ filter_same (has_from (senders_to boxes q)) (letters_from q) 0 (length boxes) (λ p below. h.marks p q (omega (arith, below)) inside)
