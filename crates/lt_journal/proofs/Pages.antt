-- What stands on a page after bytes are written behind it, and when room is made.
use Rattle.std.proofs.Common.{◌≡◌, ◌∙◌, ℕ, ◌+◌, ◌≤◌, List, ◌++◌, ap, sym, take, drop, length, arith}
use Rattle.std.proofs.lemmas.List.{length-append, length-take-le, length-drop, length-take, take-append-le, take-take}
use Rattle.std.proofs.Math.Seq.{take-append-add, take-length}

pub front_put : (items block : List ℕ) (start end count : ℕ) → start ≤ length items → count ≤ length block
    → take (start + count) (take start items ++ (block ++ drop end items)) ≡ take start items ++ take count block
front_put items block start end count inside few =
    ap (λ (n : ℕ). take (n + count) (take start items ++ (block ++ drop end items))) (sym (length-take-le start items inside))
    ∙ take-append-add (take start items) (block ++ drop end items) count
    ∙ ap (λ (bytes : List ℕ). take start items ++ bytes) (take-append-le count block (drop end items) few)

pub put : (items word : List ℕ) (start end : ℕ) → start ≤ length items
    → take (start + length word) (take start items ++ (word ++ drop end items)) ≡ take start items ++ word
put items word start end inside =
    front_put items word start end (length word) inside (omega arith)
    ∙ ap (λ (bytes : List ℕ). take start items ++ bytes) (take-length word)

pub same_length : (items word : List ℕ) (start : ℕ) → start + length word ≤ length items
    → length (take start items ++ (word ++ drop (start + length word) items)) ≡ length items
same_length items word start inside = omega (
  arith,
  length-append (take start items) (word ++ drop (start + length word) items),
  length-append word (drop (start + length word) items),
  length-take-le start items (omega (arith, inside)),
  length-drop (start + length word) items,
)

-- more bytes behind a page leave what is written on it
pub longer : (items more : List ℕ) (len : ℕ) → len ≤ length items → take len (items ++ more) ≡ take len items
longer items more len inside = take-append-le len items more inside

-- and so does a greater length
pub resized : (items more : List ℕ) (len end : ℕ) → len ≤ length items → len ≤ end → take len (take end items ++ more) ≡ take len items
resized items more len end inside small =
    take-append-le len (take end items) more (omega (arith, length-take end items, inside, small))
    ∙ take-take len end items small

pub length_taken : (items : List ℕ) (len : ℕ) → len ≤ length items → length (take len items) ≡ len
length_taken items len inside = length-take-le len items inside

pub taken : (items : List ℕ) (len count : ℕ) → count ≤ length (take len items) → len ≤ length items → take count items ≡ take count (take len items)
taken items len count few inside = sym (take-take count len items (omega (arith, few, length-take-le len items inside)))
