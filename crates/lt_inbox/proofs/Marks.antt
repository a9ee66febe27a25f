-- The oldest letter from one node to another.
use Rattle.std.proofs.Common.{◌≡◌, Bool, true, false, ℕ, suc, ◌+◌, ◌<◌, ◌==◌, List, [], ◌∷◌, ◌++◌, length, take, drop, inl, inr, refl, sym, ap, subst, ◌∙◌, arith, take-suc, ◌-◌, ◌≤◌, append_assoc, ◌≢◌, length-set, get_or-set_same, get_or-set_other, slice_index_or, All, slice_set, remove, eqb-true, eq-eqb, ne_eqb, append-nil}
use Rattle.std.proofs.Math.Seq.{split_at}
use Rattle.std.proofs.lemmas.Bool.{cases_eq, and_parts}
use Rattle.std.proofs.lemmas.List.{get_or_default}
use Rattle.std.proofs.lemmas.List.Elements.{filter_map-append, All-rest}
use Rattle.lt_modes.specs.State.{Letter, Post}
use Rattle.lt_spec.specs.World.{is_some_letter}
use Rattle.lt_inbox.specs.Mail.{SentData, IsOldest, goes, letter_between, letters_between, MailData, mail_in, sent_of, letters_of, IsSquare, AreMarked, has_from, senders_to, has_between, put_mark}

pub between_append : (a b : ℕ) (xs ys : List SentData) → letters_between a b (xs ++ ys) ≡ letters_between a b xs ++ letters_between a b ys
between_append a b xs ys = filter_map-append (letter_between a b) xs ys

abbrev pub with_letter : Bool → Letter → List Letter → List Letter
with_letter true letter rest = letter ∷ rest
with_letter false letter rest = rest

pub between_cons : (a b : ℕ) (one : SentData) (rest : List SentData) → letters_between a b (one ∷ rest) ≡ with_letter (goes a b one) one.letter (letters_between a b rest)
between_cons a b one rest = by_case (goes a b one) refl
  where
    by_case : (t : Bool) → goes a b one ≡ t → letters_between a b (one ∷ rest) ≡ with_letter (goes a b one) one.letter (letters_between a b rest)
    by_case true e = rw e refl
    by_case false e = rw e refl

-- a letter that goes from p to q goes between no others
pub goes_else : (p q a b : ℕ) (one : SentData) → goes p q one ≡ true → (a ≡ p → b ≡ q → ⊥) → goes a b one ≡ false
goes_else p q a b one e apart = elim (cases_eq one.sender a) [
  | inr other ↦ rw (ne_eqb one.sender a other) refl
  | inl sender ↦ elim (cases_eq one.receiver b) [
    | inr other ↦ rw (eq-eqb one.sender a sender, ne_eqb one.receiver b other) refl
    | inl receiver ↦ absurd (apart (sym sender ∙ eqb-true one.sender p (and_parts (one.sender == p) (one.receiver == q) e).0)
        (sym receiver ∙ eqb-true one.receiver q (and_parts (one.sender == p) (one.receiver == q) e).1))
  ]
]

pub none_more : (p q : ℕ) (sent : List SentData) (k : ℕ) (one : SentData) → k < length sent → one ≡ slice_index_or sent k one → goes p q one ≡ false
    → letters_between p q (take k sent) ≡ [] → letters_between p q (take (k + 1) sent) ≡ []
none_more p q sent k one below is miss none =
    let step : k + 1 ≡ suc k = omega arith in
    let more : take (k + 1) sent ≡ take k sent ++ one ∷ [] = ap (λ (n : ℕ). take n sent) step ∙ (take-suc sent k one below ∙ ap (λ (x : SentData). take k sent ++ x ∷ []) (sym is)) in
    ap (letters_between p q) more
    ∙ (between_append p q (take k sent) (one ∷ [])
    ∙ (ap (λ (ls : List Letter). ls ++ letters_between p q (one ∷ [])) none
    ∙ (between_cons p q one [] ∙ ap (λ (t : Bool). with_letter t one.letter []) miss)))

pub first_at : (p q : ℕ) (sent : List SentData) (k : ℕ) (one : SentData) → k < length sent → one ≡ slice_index_or sent k one → goes p q one ≡ true
    → letters_between p q (take k sent) ≡ [] → IsOldest p q sent k
first_at p q sent k one below is hit none = record {
  below = below;
  first = λ it e.
      let same : it ≡ one = e ∙ (get_or_default sent k it one below ∙ sym is) in
      subst (λ (x : SentData). letters_between p q sent ≡ x.letter ∷ letters_between p q (remove sent k)) (sym same) (front ∙ sym (ap (λ (ls : List Letter). one.letter ∷ ls) left));
  others = λ a b apart.
      between_append a b before after
      ∙ sym (ap (letters_between a b) split
      ∙ (between_append a b before (one ∷ after)
      ∙ ap (λ (ls : List Letter). letters_between a b before ++ ls)
      (between_cons a b one after ∙ ap (λ (t : Bool). with_letter t one.letter (letters_between a b after)) (goes_else p q a b one hit apart))));
}
  where
    before : List SentData
    before = take k sent

    after : List SentData
    after = drop (suc k) sent

    split : sent ≡ before ++ one ∷ after
    split = split_at sent k one below ∙ ap (λ (x : SentData). before ++ x ∷ after) (sym is)

    left : letters_between p q (remove sent k) ≡ letters_between p q after
    left = between_append p q before after ∙ ap (λ (ls : List Letter). ls ++ letters_between p q after) none

    front : letters_between p q sent ≡ one.letter ∷ letters_between p q after
    front =
        ap (letters_between p q) split
        ∙ (between_append p q before (one ∷ after)
        ∙ (ap (λ (ls : List Letter). ls ++ letters_between p q (one ∷ after)) none
        ∙ (between_cons p q one after ∙ ap (λ (t : Bool). with_letter t one.letter (letters_between p q after)) hit)))

-- Letters that are put behind those on their way, one after another.

-- with one letter more of p
abbrev pub with_post : MailData → ℕ → Post → MailData
with_post mail p post = record mail { sent = mail.sent ++ sent_of p post.to post.letter ∷ []; free = mail.free - 1 }

-- the letters of these posts are still to be delivered
pub record LeftToDeliver (p : ℕ) (posts : List Post) (old : MailData) (left : List Post) (now : MailData) : Type 0 where
  pub receivers : now.nodes ≡ old.nodes
  pub letters : (a b : ℕ) → mail_in now a b ++ letters_of p left a b ≡ mail_in old a b ++ letters_of p posts a b
  pub targets : All (λ (post : Post). post.to < now.nodes) left
  pub room : length left ≤ now.free

-- the first letter goes with those of its receiver
one_letter : (p : ℕ) (post : Post) (rest : List Post) (a b : ℕ)
    → letters_between a b (sent_of p post.to post.letter ∷ []) ++ letters_of p rest a b ≡ letters_of p (post ∷ rest) a b
one_letter p post rest a b = elim (cases_eq p a) [
  | inr other ↦ rw (ne_eqb p a other, ne_eqb a p (λ e. other (sym e))) refl
  | inl sender ↦ elim (cases_eq post.to b) [
    | inr other ↦ rw (eq-eqb p a sender, eq-eqb a p (sym sender), ne_eqb post.to b other) refl
    | inl receiver ↦ rw (eq-eqb p a sender, eq-eqb a p (sym sender), eq-eqb post.to b receiver) refl
  ]
]

pub delivered_one : (p : ℕ) (posts : List Post) (old now : MailData) (post : Post) (rest : List Post)
    → LeftToDeliver p posts old (post ∷ rest) now → LeftToDeliver p posts old rest (with_post now p post)
delivered_one p posts old now post rest h = record {
  receivers = h.receivers;
  letters = λ a b.
      ap (λ (ls : List Letter). ls ++ letters_of p rest a b) (between_append a b now.sent (sent_of p post.to post.letter ∷ []))
      ∙ (append_assoc (mail_in now a b) (letters_between a b (sent_of p post.to post.letter ∷ [])) (letters_of p rest a b)
      ∙ (ap (λ (ls : List Letter). mail_in now a b ++ ls) (one_letter p post rest a b)
      ∙ h.letters a b));
  targets = All-rest (λ (x : Post). x.to < now.nodes) post rest (post ∷ rest) refl h.targets;
  room = omega (arith, h.room);
}

-- From whom to whom letters are on their way, once a letter more or less is.

pub at_receiver : (boxes : List (List Bool)) (p q : ℕ) (t : Bool) → q < length boxes → senders_to (put_mark boxes p q t) q ≡ slice_set (senders_to boxes q) p t
at_receiver boxes p q t inside = get_or-set_same boxes q (slice_set (senders_to boxes q) p t) [] inside

pub at_other : (boxes : List (List Bool)) (p q : ℕ) (t : Bool) (b : ℕ) → b ≢ q → senders_to (put_mark boxes p q t) b ≡ senders_to boxes b
at_other boxes p q t b apart = get_or-set_other boxes q b (slice_set (senders_to boxes q) p t) [] apart

mark_same : (boxes : List (List Bool)) (p q : ℕ) (t : Bool) → q < length boxes → p < length (senders_to boxes q) → has_between (put_mark boxes p q t) p q ≡ t
mark_same boxes p q t inside within =
    ap (λ (box : List Bool). has_from box p) (at_receiver boxes p q t inside) ∙ get_or-set_same (senders_to boxes q) p t false within

mark_other : (boxes : List (List Bool)) (p q : ℕ) (t : Bool) (a b : ℕ) → q < length boxes → (a ≡ p → b ≡ q → ⊥)
    → has_between (put_mark boxes p q t) a b ≡ has_between boxes a b
mark_other boxes p q t a b inside apart = elim (cases_eq b q) [
  | inr other ↦ ap (λ (box : List Bool). has_from box a) (at_other boxes p q t b other)
  | inl same ↦
      let here : has_between (put_mark boxes p q t) a q ≡ has_between boxes a q =
      ap (λ (box : List Bool). has_from box a) (at_receiver boxes p q t inside) ∙ get_or-set_other (senders_to boxes q) p a t false (λ e. apart e same) in
      subst (λ (k : ℕ). has_between (put_mark boxes p q t) a k ≡ has_between boxes a k) (sym same) here
]

senders_put : (boxes : List (List Bool)) (p q : ℕ) (t : Bool) (b : ℕ) → q < length boxes → length (senders_to (put_mark boxes p q t) b) ≡ length (senders_to boxes b)
senders_put boxes p q t b inside = elim (cases_eq b q) [
  | inr other ↦ ap length (at_other boxes p q t b other)
  | inl same ↦
      let here : length (senders_to (put_mark boxes p q t) q) ≡ length (senders_to boxes q) =
      ap length (at_receiver boxes p q t inside) ∙ length-set (senders_to boxes q) p t in
      subst (λ (k : ℕ). length (senders_to (put_mark boxes p q t) k) ≡ length (senders_to boxes k)) (sym same) here
]

pub square_put : (boxes : List (List Bool)) (p q : ℕ) (t : Bool) → IsSquare boxes → q < length boxes → IsSquare (put_mark boxes p q t)
square_put boxes p q t h receiver =
    let same : length (put_mark boxes p q t) ≡ length boxes = length-set boxes q (slice_set (senders_to boxes q) p t) in
    record {
      few = omega (arith, h.few, same);
      senders = λ b below. senders_put boxes p q t b receiver ∙ (h.senders b (omega (arith, below, same)) ∙ sym same);
    }

-- only the letters from p to q changed
pub marked : (boxes : List (List Bool)) (sent now : List SentData) (p q : ℕ) (t : Bool) → AreMarked boxes sent → p < length boxes → q < length boxes
    → is_some_letter (letters_between p q now) ≡ t → ((a b : ℕ) → (a ≡ p → b ≡ q → ⊥) → letters_between a b now ≡ letters_between a b sent)
    → AreMarked (put_mark boxes p q t) now
marked boxes sent now p q t h sender receiver own others =
    let same : length (put_mark boxes p q t) ≡ length boxes = length-set boxes q (slice_set (senders_to boxes q) p t) in
    record {
      square = square_put boxes p q t h.square receiver;
      marks = λ a b la lb. mark_is a b (omega (arith, la, same)) (omega (arith, lb, same));
    }
  where
    apart_is : (a b : ℕ) → a < length boxes → b < length boxes → (a ≡ p → b ≡ q → ⊥) → has_between (put_mark boxes p q t) a b ≡ is_some_letter (letters_between a b now)
    apart_is a b la lb apart = mark_other boxes p q t a b receiver apart ∙ (h.marks a b la lb ∙ ap is_some_letter (sym (others a b apart)))

    mark_is : (a b : ℕ) → a < length boxes → b < length boxes → has_between (put_mark boxes p q t) a b ≡ is_some_letter (letters_between a b now)
    mark_is a b la lb = elim (cases_eq a p) [
      | inr other ↦ apart_is a b la lb (λ e f. other e)
      | inl from ↦ elim (cases_eq b q) [
        | inr other ↦ apart_is a b la lb (λ e f. other f)
        | inl to ↦
            let here : has_between (put_mark boxes p q t) p q ≡ is_some_letter (letters_between p q now) =
            mark_same boxes p q t receiver (omega (arith, sender, h.square.senders q receiver)) ∙ sym own in
            subst (λ (i : ℕ). has_between (put_mark boxes p q t) i b ≡ is_some_letter (letters_between i b now)) (sym from)
            (subst (λ (i : ℕ). has_between (put_mark boxes p q t) p i ≡ is_some_letter (letters_between p i now)) (sym to) here)
      ]
    ]

own_goes : (p q : ℕ) (letter : Letter) → goes p q (sent_of p q letter) ≡ true
own_goes p q letter = rw (eq-eqb p p refl, eq-eqb q q refl) refl

own_last : (ls : List Letter) (letter : Letter) → is_some_letter (ls ++ letter ∷ []) ≡ true
own_last [] letter = refl
own_last (l ∷ ls) letter = refl

pub one_own : (p q : ℕ) (letter : Letter) (rest : List SentData) → letters_between p q (sent_of p q letter ∷ rest) ≡ letter ∷ letters_between p q rest
one_own p q letter rest =
    between_cons p q (sent_of p q letter) rest ∙ ap (λ (t : Bool). with_letter t letter (letters_between p q rest)) (own_goes p q letter)

pub one_other : (p q : ℕ) (letter : Letter) (rest : List SentData) (a b : ℕ) → (a ≡ p → b ≡ q → ⊥)
    → letters_between a b (sent_of p q letter ∷ rest) ≡ letters_between a b rest
one_other p q letter rest a b apart =
    between_cons a b (sent_of p q letter) rest
    ∙ ap (λ (t : Bool). with_letter t letter (letters_between a b rest)) (goes_else p q a b (sent_of p q letter) (own_goes p q letter) apart)

-- a letter more behind the others
pub marked_back : (boxes : List (List Bool)) (sent : List SentData) (p q : ℕ) (letter : Letter) → AreMarked boxes sent → p < length boxes → q < length boxes
    → AreMarked (put_mark boxes p q true) (sent ++ sent_of p q letter ∷ [])
marked_back boxes sent p q letter h sender receiver =
    let one = sent_of p q letter in
    marked boxes sent (sent ++ one ∷ []) p q true h sender receiver
    (ap is_some_letter (between_append p q sent (one ∷ []) ∙ ap (λ (ls : List Letter). letters_between p q sent ++ ls) (one_own p q letter []))
    ∙ own_last (letters_between p q sent) letter)
    (λ a b apart. between_append a b sent (one ∷ [])
    ∙ (ap (λ (ls : List Letter). letters_between a b sent ++ ls) (one_other p q letter [] a b apart) ∙ append-nil (letters_between a b sent)))

-- or before them
pub marked_front : (boxes : List (List Bool)) (sent : List SentData) (p q : ℕ) (letter : Letter) → AreMarked boxes sent → p < length boxes → q < length boxes
    → AreMarked (put_mark boxes p q true) (sent_of p q letter ∷ sent)
marked_front boxes sent p q letter h sender receiver =
    marked boxes sent (sent_of p q letter ∷ sent) p q true h sender receiver (ap is_some_letter (one_own p q letter sent)) (λ a b apart. one_other p q letter sent a b apart)
