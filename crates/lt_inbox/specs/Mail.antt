-- Letters on their way, in the order in which they were sent.
use Rattle.std.specs.Prelude.{◌≡◌, ◌<◌, ◌≤◌, ◌+◌, ◌++◌, ◌^◌, ◌&&◌, ℕ, Bool, false, List, [], ◌∷◌, Option, Some, None, if◌then◌else◌, ◌==◌, length, map, filter, flat_map, count_by, sum_by, nat_lt, slice_index_or, slice_set, filter_map, remove}
use Rattle.std.specs.List.{range_with_len}
use Rattle.lt_modes.specs.State.{Letter, Post}
use Rattle.lt_spec.specs.World.{is_some_letter, letter_for}
use Rattle.lt_spec.specs.FixedOrder.{Turn, take_turn}

-- a letter on its way
pub record SentData : Type 0 where
  pub sender : ℕ
  pub receiver : ℕ
  pub letter : Letter

-- the letters on their way between so many nodes, the oldest first, and for how many more there is room
pub record MailData : Type 0 where
  pub nodes : ℕ
  pub sent : List SentData
  pub free : ℕ

-- whether it goes from p to q
abbrev pub goes : ℕ → ℕ → SentData → Bool
goes p q one = one.sender == p && one.receiver == q

abbrev pub letter_between : ℕ → ℕ → SentData → Option Letter
letter_between p q one = if goes p q one then Some one.letter else None

-- those that go from p to q
abbrev pub letters_between : ℕ → ℕ → List SentData → List Letter
letters_between p q sent = filter_map (letter_between p q) sent

-- the letters from p to q
abbrev pub mail_in : MailData → ℕ → ℕ → List Letter
mail_in mail p q = letters_between p q mail.sent

abbrev pub sent_of : ℕ → ℕ → Letter → SentData
sent_of p q letter = record { sender = p; receiver = q; letter = letter }

-- the place of the oldest letter from p to q
pub record IsOldest (p q : ℕ) (sent : List SentData) (k : ℕ) : Type 0 where
  pub below : k < length sent
  pub first : (one : SentData) → one ≡ slice_index_or sent k one → letters_between p q sent ≡ one.letter ∷ letters_between p q (remove sent k)
  pub others : (a b : ℕ) → (a ≡ p → b ≡ q → ⊥) → letters_between a b (remove sent k) ≡ letters_between a b sent

-- whether the sender with this number has letters on their way
abbrev pub has_from : List Bool → ℕ → Bool
has_from senders p = slice_index_or senders p false

-- how many senders have
abbrev pub sender_count : List Bool → ℕ
sender_count senders = count_by (λ has. has) senders

-- which senders have
abbrev pub senders_in : List Bool → List ℕ
senders_in senders = filter (has_from senders) (range_with_len 0 (length senders))

-- the senders to the receiver with this number
abbrev pub senders_to : List (List Bool) → ℕ → List Bool
senders_to boxes q = slice_index_or boxes q []

abbrev pub has_between : List (List Bool) → ℕ → ℕ → Bool
has_between boxes p q = has_from (senders_to boxes q) p

-- with this mark for the letters from p to q
abbrev pub put_mark : List (List Bool) → ℕ → ℕ → Bool → List (List Bool)
put_mark boxes p q has = slice_set boxes q (slice_set (senders_to boxes q) p has)

-- a mark for each ordered pair of nodes, whose number a byte holds
pub record IsSquare (boxes : List (List Bool)) : Type 0 where
  pub few : length boxes < 2 ^ 8
  pub senders : (q : ℕ) → q < length boxes → length (senders_to boxes q) ≡ length boxes

-- the receivers who have letters
pub record AreReceivers (boxes : List (List Bool)) (receivers : List Bool) : Type 0 where
  pub count : length receivers ≡ length boxes
  pub marks : (q : ℕ) → has_from receivers q ≡ nat_lt 0 (sender_count (senders_to boxes q))

-- the receivers who have letters, and the number of pairs
pub record AreSummed (boxes : List (List Bool)) (receivers : List Bool) (pairs : ℕ) : Type 0 where
  pub square : IsSquare boxes
  pub receivers_are : AreReceivers boxes receivers
  pub counted : pairs ≡ sum_by sender_count boxes

-- for each ordered pair of nodes whether letters are on their way
pub record AreMarked (boxes : List (List Bool)) (sent : List SentData) : Type 0 where
  pub square : IsSquare boxes
  pub marks : (p q : ℕ) → p < length boxes → q < length boxes → has_between boxes p q ≡ is_some_letter (letters_between p q sent)

-- the takes of one receiver, by sender
abbrev pub takes_of : ℕ → List Bool → List Turn
takes_of q senders = map (take_turn q) (senders_in senders)

-- the takes of so many receivers from q on
abbrev pub takes_from : List (List Bool) → ℕ → ℕ → List Turn
takes_from boxes q count = flat_map (λ r. takes_of r (senders_to boxes r)) (range_with_len q count)

-- the takes of all
abbrev pub takes_by : List (List Bool) → List Turn
takes_by boxes = takes_from boxes 0 (length boxes)

-- all takes, by receiver and then by sender
abbrev pub takes_in : MailData → List Turn
takes_in mail =
    flat_map (λ q. map (take_turn q) (filter (λ p. is_some_letter (mail_in mail p q)) (range_with_len 0 mail.nodes))) (range_with_len 0 mail.nodes)

-- the same letters, and there may be room for more
pub record SameLetters (old new : MailData) : Type 0 where
  pub receivers : new.nodes ≡ old.nodes
  pub letters : (p q : ℕ) → mail_in new p q ≡ mail_in old p q
  pub room : old.free ≤ new.free

-- the letters of these posts that go from p to q
abbrev pub letters_of : ℕ → List Post → ℕ → ℕ → List Letter
letters_of p posts a b = if a == p then filter_map (letter_for b) posts else []

-- the letters of p were put behind those that were on their way
pub record AreDelivered (p : ℕ) (posts : List Post) (old new : MailData) : Type 0 where
  pub receivers : new.nodes ≡ old.nodes
  pub letters : (a b : ℕ) → mail_in new a b ≡ mail_in old a b ++ letters_of p posts a b

-- the front letter from p to q is on its way no more, which makes room for one
pub record IsTaken (p q : ℕ) (letter : Letter) (old new : MailData) : Type 0 where
  pub receivers : new.nodes ≡ old.nodes
  pub front : mail_in old p q ≡ letter ∷ mail_in new p q
  pub others : (a b : ℕ) → (a ≡ p → b ≡ q → ⊥) → mail_in new a b ≡ mail_in old a b
  pub room : new.free ≡ old.free + 1
