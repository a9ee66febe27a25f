-- How many letters are on their way between nodes.
use Rattle.std.specs.Prelude.{◌≡◌, ◌<◌, ℕ, Bool, List, [], length, slice_index_or, slice_set}
use Rattle.lt_inbox.specs.Mail.{SentData, AreMarked, letters_between}

-- how many of the sender with this number
abbrev pub count_from : List ℕ → ℕ → ℕ
count_from counts p = slice_index_or counts p 0

-- by sender, to the receiver with this number
abbrev pub counts_to : List (List ℕ) → ℕ → List ℕ
counts_to rows q = slice_index_or rows q []

abbrev pub count_between : List (List ℕ) → ℕ → ℕ → ℕ
count_between rows p q = count_from (counts_to rows q) p

-- with this number of letters from p to q
abbrev pub put_count : List (List ℕ) → ℕ → ℕ → ℕ → List (List ℕ)
put_count rows p q count = slice_set rows q (slice_set (counts_to rows q) p count)

-- for each ordered pair of nodes how many letters are on their way
pub record AreCountedBetween (rows : List (List ℕ)) (sent : List SentData) : Type 0 where
  pub senders : (q : ℕ) → q < length rows → length (counts_to rows q) ≡ length rows
  pub counts : (p q : ℕ) → p < length rows → q < length rows → count_between rows p q ≡ length (letters_between p q sent)

-- for each ordered pair of nodes whether letters are on their way, and how many
pub record AreNoted (boxes : List (List Bool)) (rows : List (List ℕ)) (sent : List SentData) : Type 0 where
  pub marked : AreMarked boxes sent
  pub nodes : length rows ≡ length boxes
  pub counted : AreCountedBetween rows sent
