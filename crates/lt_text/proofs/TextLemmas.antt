-- Where a text is cut into lines, and a line into words and fields, and that what is written is cut so again.
use Rattle.std.proofs.Common.{◌≡◌, ℕ, zero, suc, ◌+◌, ◌<◌, ◌≤◌, ◌==◌, Bool, true, false, List, [], ◌∷◌, ◌++◌, length, take, drop, map, filter, get_or, Some, None, position, refl, sym, ap, subst, ◌∙◌, inl, inr, arith, add-one, drop-cons, append-nil, eqb-true, take-append-drop}
use Rattle.std.specs.List.{AllByRecursion, position_from}
use Rattle.std.proofs.lemmas.Bool.{cases_Bool, not-true}
use Rattle.std.proofs.lemmas.List.Quantifiers.{position-Some}
use Rattle.std.proofs.lemmas.Iterator.Adapters.{position_from-zero}
use Rattle.lt_text.specs.Text.{cut_at, lines, words, before_space, later_fields, fields, text, each_after_space, spaced, is_line_end, is_space, is_blank, is_word_byte, is_filled, without_return, HasNone, IsLine, IsWord, IsField}

pub cut_piece : (ends : ℕ → Bool) (front : List ℕ) (byte : ℕ) (rest : List ℕ) → HasNone ends front → ends byte ≡ true
    → cut_at ends (front ++ byte ∷ rest) ≡ front ∷ cut_at ends rest
unfolding cut_at
cut_piece ends [] byte rest none e = rw e
cut_piece ends (x ∷ front) byte rest none e =
    let here : ends x ≡ false = none.0 in
    rw (here, cut_piece ends front byte rest none.1 e)

pub cut_last : (ends : ℕ → Bool) (byte : ℕ) (front : List ℕ) → HasNone ends (byte ∷ front) → cut_at ends (byte ∷ front) ≡ (byte ∷ front) ∷ []
unfolding cut_at
cut_last ends byte [] none =
    let here : ends byte ≡ false = none.0 in
    rw here
cut_last ends byte (x ∷ front) none =
    let here : ends byte ≡ false = none.0 in
    rw (here, cut_last ends x front none.1)

pub field_piece : (front : List ℕ) (byte : ℕ) (rest : List ℕ) → HasNone is_space front → is_space byte ≡ true
    → fields (front ++ byte ∷ rest) ≡ front ∷ fields rest
unfolding before_space later_fields
field_piece [] byte rest none e = rw e
field_piece (x ∷ front) byte rest none e =
    let here : is_space x ≡ false = none.0 in
    let later : fields (front ++ byte ∷ rest) ≡ front ∷ fields rest = field_piece front byte rest none.1 e in
    let first : before_space (front ++ byte ∷ rest) ≡ front = cc in
    let others : later_fields (front ++ byte ∷ rest) ≡ fields rest = cc in
    rw (here, first, others)

pub field_last : (front : List ℕ) → HasNone is_space front → fields front ≡ front ∷ []
unfolding before_space later_fields
field_last [] none = refl
field_last (x ∷ front) none =
    let here : is_space x ≡ false = none.0 in
    let later : fields front ≡ front ∷ [] = field_last front none.1 in
    let first : before_space front ≡ front = cc in
    let others : later_fields front ≡ [] = cc in
    rw (here, first, others)

none_before : (ends : ℕ → Bool) (bytes : List ℕ) (k : ℕ) → ((j : ℕ) → j < k → ends (get_or bytes j 0) ≡ false) → k ≤ length bytes → HasNone ends (take k bytes)
none_before ends [] zero fails within = tt
none_before ends [] (suc k) fails within = absurd (omega arith)
none_before ends (x ∷ bytes) zero fails within = tt
none_before ends (x ∷ bytes) (suc k) fails within =
    (fails 0 (omega arith), none_before ends bytes k (λ j below. fails (suc j) (omega arith)) (omega arith))

none_from : (ends : ℕ → Bool) (bytes : List ℕ) (k : ℕ) → position_from ends k bytes ≡ None → HasNone ends bytes
none_from ends [] k e = tt
none_from ends (x ∷ bytes) k e = elim (cases_Bool (ends x)) [
  | inl here ↦ absurd (let found = rw here at e in cc)
  | inr here ↦ (here, none_from ends bytes (k + 1) (rw here at e))
]

-- where no byte of a list ends a piece, as position says it
pub none_found : (ends : ℕ → Bool) (bytes : List ℕ) → position ends bytes ≡ None → HasNone ends bytes
none_found ends bytes e = none_from ends bytes 0 (sym (position_from-zero ends bytes) ∙ e)

-- the first byte that ends a piece, and what stands round it
pub record Found (ends : ℕ → Bool) (bytes : List ℕ) (k : ℕ) : Type 0 where
  pub byte : ℕ
  pub ends_piece : ends byte ≡ true
  pub none_earlier : HasNone ends (take k bytes)
  pub parts : bytes ≡ take k bytes ++ byte ∷ drop (k + 1) bytes
  pub inside : k < length bytes

pub found_at : (ends : ℕ → Bool) (bytes : List ℕ) (k : ℕ) → position ends bytes ≡ Some k → Found ends bytes k
found_at ends bytes k e =
    let found = position-Some ends bytes k 0 e in
    let inside : k < length bytes = found.0 in
    record {
      byte = get_or bytes k 0;
      ends_piece = found.1;
      none_earlier = none_before ends bytes k found.2 (omega arith);
      parts = sym (take-append-drop k bytes) ∙ ap (λ rest. take k bytes ++ rest) (rw add-one (drop-cons bytes k 0 inside));
      inside = inside;
    }

-- the first piece ends at the first such byte, and the pieces of the rest follow
pub cut_at_found : (ends : ℕ → Bool) (bytes : List ℕ) (k : ℕ) → position ends bytes ≡ Some k → cut_at ends bytes ≡ take k bytes ∷ cut_at ends (drop (k + 1) bytes)
cut_at_found ends bytes k e =
    let found = found_at ends bytes k e in
    ap (cut_at ends) found.parts ∙ cut_piece ends (take k bytes) found.byte (drop (k + 1) bytes) found.none_earlier found.ends_piece

-- no byte is no piece
pub cut_at_empty : (ends : ℕ → Bool) (bytes : List ℕ) → (length bytes == 0) ≡ true → cut_at ends bytes ≡ []
unfolding cut_at
cut_at_empty ends [] none = refl
cut_at_empty ends (x ∷ bytes) none = absurd (let e = eqb-true (length (x ∷ bytes)) 0 none in omega (arith, e))

-- with no such byte all is one piece
pub cut_at_none : (ends : ℕ → Bool) (bytes : List ℕ) → (length bytes == 0) ≡ false → position ends bytes ≡ None → cut_at ends bytes ≡ bytes ∷ []
cut_at_none ends [] some e = absurd (cc)
cut_at_none ends (x ∷ bytes) some e = cut_last ends x bytes (none_found ends (x ∷ bytes) e)

-- the first field ends at the first space, and the fields of the rest follow
pub fields_found : (line : List ℕ) (k : ℕ) → position is_space line ≡ Some k → fields line ≡ take k line ∷ fields (drop (k + 1) line)
fields_found line k e =
    let found = found_at is_space line k e in
    ap fields found.parts ∙ field_piece (take k line) found.byte (drop (k + 1) line) found.none_earlier found.ends_piece

-- with no space the line is one field
pub fields_none : (line : List ℕ) → position is_space line ≡ None → fields line ≡ line ∷ []
fields_none line e = field_last line (none_found is_space line e)

-- no line is in no byte
pub lines_empty : (bytes : List ℕ) → (length bytes == 0) ≡ true → lines bytes ≡ []
unfolding lines
lines_empty bytes none = rw (cut_at_empty is_line_end bytes none)

-- the first line ends at the first line feed, and the lines of the rest follow
pub lines_found : (bytes : List ℕ) (k : ℕ) → position is_line_end bytes ≡ Some k → lines bytes ≡ without_return (take k bytes) ∷ lines (drop (k + 1) bytes)
unfolding lines
lines_found bytes k e = ap (map without_return) (cut_at_found is_line_end bytes k e)

-- with no line feed all is one line
pub lines_last : (bytes : List ℕ) → (length bytes == 0) ≡ false → position is_line_end bytes ≡ None → lines bytes ≡ without_return bytes ∷ []
unfolding lines
lines_last bytes some e = ap (map without_return) (cut_at_none is_line_end bytes some e)

-- blanks in front are passed over
words_after : (front rest : List ℕ) → HasNone is_word_byte front → words (front ++ rest) ≡ words rest
unfolding words cut_at
words_after [] rest none = refl
words_after (byte ∷ front) rest none = elim (cases_Bool (is_blank byte)) [
  | inl blank ↦ rw blank (words_after front rest none.1)
  | inr other ↦ absurd (let e : is_word_byte byte ≡ false = none.0 in let e' = rw other at e in cc)
]

-- the words from the first byte on that is not blank
pub words_from : (line : List ℕ) (start : ℕ) → position is_word_byte line ≡ Some start → words line ≡ words (drop start line)
words_from line start e =
    let found = found_at is_word_byte line start e in
    ap words (sym (take-append-drop start line)) ∙ words_after (take start line) (drop start line) found.none_earlier

-- there it begins with a byte that is not blank
pub word_from : (line : List ℕ) (start : ℕ) → position is_word_byte line ≡ Some start → drop start line ≡ get_or line start 0 ∷ drop (start + 1) line
word_from line start e = rw add-one (drop-cons line start 0 (found_at is_word_byte line start e).inside)

-- blanks alone have no words
pub words_none : (line : List ℕ) → position is_word_byte line ≡ None → words line ≡ []
unfolding words cut_at
words_none line e = ap words (sym (append-nil line)) ∙ words_after line [] (none_found is_word_byte line e)

-- a word that begins here ends at the first blank
word_piece : (byte : ℕ) (later : List ℕ) (k : ℕ) → is_blank byte ≡ false → position is_blank (byte ∷ later) ≡ Some k
    → words (byte ∷ later) ≡ take k (byte ∷ later) ∷ words (drop (k + 1) (byte ∷ later))
unfolding words
word_piece byte later zero inked e = absurd (let here : is_blank byte ≡ true = (position-Some is_blank (byte ∷ later) 0 0 e).1 in cc)
word_piece byte later (suc k) inked e = ap (filter is_filled) (cut_at_found is_blank (byte ∷ later) (suc k) e)

word_last : (byte : ℕ) (later : List ℕ) → position is_blank (byte ∷ later) ≡ None → words (byte ∷ later) ≡ (byte ∷ later) ∷ []
unfolding words
word_last byte later e = ap (filter is_filled) (cut_last is_blank byte later (none_found is_blank (byte ∷ later) e))

-- the byte there is not blank
inked_at : (line : List ℕ) (start : ℕ) → position is_word_byte line ≡ Some start → is_blank (get_or line start 0) ≡ false
inked_at line start e = not-true (is_blank (get_or line start 0)) (position-Some is_word_byte line start 0 e).1

-- the first word ends at the first blank after its start, and the words of the rest follow
pub words_found : (line : List ℕ) (start : ℕ) (from : List ℕ) (k : ℕ) → position is_word_byte line ≡ Some start → from ≡ drop start line → position is_blank from ≡ Some k
    → words line ≡ take k from ∷ words (drop (k + 1) from)
words_found line start from k e is_from ends =
    let parts : from ≡ get_or line start 0 ∷ drop (start + 1) line = is_from ∙ word_from line start e in
    words_from line start e ∙ ap words (sym is_from) ∙
    subst (λ (from : List ℕ). position is_blank from ≡ Some k → words from ≡ take k from ∷ words (drop (k + 1) from)) (sym parts)
    (word_piece (get_or line start 0) (drop (start + 1) line) k (inked_at line start e)) ends

-- with no blank after its start the first word is the last
pub words_last : (line : List ℕ) (start : ℕ) (from : List ℕ) → position is_word_byte line ≡ Some start → from ≡ drop start line → position is_blank from ≡ None
    → words line ≡ from ∷ []
words_last line start from e is_from ends =
    let parts : from ≡ get_or line start 0 ∷ drop (start + 1) line = is_from ∙ word_from line start e in
    words_from line start e ∙ ap words (sym is_from) ∙
    subst (λ (from : List ℕ). position is_blank from ≡ None → words from ≡ from ∷ []) (sym parts) (word_last (get_or line start 0) (drop (start + 1) line)) ends

pub words_empty : words [] ≡ []
unfolding words cut_at
words_empty = refl

-- what is written is cut so again

pub lines_text : (ls : List (List ℕ)) → AllByRecursion IsLine ls → lines (text ls) ≡ ls
unfolding lines cut_at
lines_text [] good = refl
lines_text (line ∷ rest) good =
    rw (cut_piece is_line_end line 10 (text rest) good.0.0 refl, good.0.1) (ap (λ ls. line ∷ ls) (lines_text rest good.1))

words_after_word : (word : List ℕ) (rest : List (List ℕ)) → IsWord word → AllByRecursion IsWord rest → words (word ++ each_after_space rest) ≡ word ∷ rest
unfolding words
words_after_word [] rest good later = absurd (let e : false ≡ true = good.0 in cc)
words_after_word (byte ∷ word) [] good later = ap words (append-nil (byte ∷ word)) ∙ ap (filter is_filled) (cut_last is_blank byte word good.1)
words_after_word (byte ∷ word) (next ∷ rest) good later =
    ap (filter is_filled) (cut_piece is_blank (byte ∷ word) 32 (next ++ each_after_space rest) good.1 refl)
    ∙ ap (λ ws. (byte ∷ word) ∷ ws) (words_after_word next rest later.0 later.1)

pub words_spaced : (ws : List (List ℕ)) → AllByRecursion IsWord ws → words (spaced ws) ≡ ws
words_spaced [] good = words_empty
words_spaced (word ∷ rest) good = words_after_word word rest good.0 good.1

pub fields_spaced : (field : List ℕ) (rest : List (List ℕ)) → IsField field → AllByRecursion IsField rest → fields (spaced (field ∷ rest)) ≡ field ∷ rest
fields_spaced field [] good later = ap fields (append-nil field) ∙ field_last field good
fields_spaced field (next ∷ rest) good later =
    field_piece field 32 (spaced (next ∷ rest)) good refl ∙ ap (λ fs. field ∷ fs) (fields_spaced next rest later.0 later.1)

pub spaced_fields : (line : List ℕ) → spaced (fields line) ≡ line
unfolding before_space later_fields
spaced_fields [] = refl
spaced_fields (byte ∷ bytes) = elim (cases_Bool (is_space byte)) [
  | inl space ↦ rw space (ap (λ b. b ∷ spaced (fields bytes)) (sym (eqb-true byte 32 space)) ∙ ap (λ bs. byte ∷ bs) (spaced_fields bytes))
  | inr other ↦ rw other (ap (λ bs. byte ∷ bs) (spaced_fields bytes))
]
