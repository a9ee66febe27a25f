-- A command of one mode is what its words say.
use Rattle.std.proofs.Common.{◌≡◌, ◌∙◌, ℕ, true, List, [], ◌∷◌, ◌++◌, length, take, drop, Some, refl, sym, ap, take-append-drop, append_assoc, bytes_eq}
use Rattle.std.proofs.lemmas.Iterator.Adapters.{position_from-zero}
use Rattle.std.proofs.lemmas.Slice.Eq.{bytes_eq-Decides}
use Rattle.lt_modes.specs.declared.mode.Mode.{Mode}
use Rattle.lt_modes.specs.Modes.{word_of}
use Rattle.lt_modes.proofs.ModeAlgebra.{each_mode}
use Rattle.lt_text.specs.Text.{words, cut_at, is_blank, is_word_byte}
use Rattle.lt_text.proofs.TextLemmas.{words_found}
use Rattle.lt_script.specs.declared.one_mode.Verb.{Verb}
use Rattle.lt_script.specs.declared.one_mode.Verb.TheVariants.{Lock, Try, Unlock}
use Rattle.lt_script.specs.Forms.{asked_of}
use Rattle.lt_script.specs.OneMode.{verb_word, verb_words}

-- the verb and a space are the first word and its end
pub verb_first : (verb : Verb) (rest : List ℕ) → words (verb_word verb ++ 32 ∷ rest) ≡ verb_word verb ∷ words rest
verb_first Lock rest =
    let line = verb_word Lock ++ 32 ∷ rest in
    words_found line 0 line 4 (position_from-zero is_word_byte line) refl (position_from-zero is_blank line)
verb_first Try rest =
    let line = verb_word Try ++ 32 ∷ rest in
    words_found line 0 line 3 (position_from-zero is_word_byte line) refl (position_from-zero is_blank line)
verb_first Unlock rest =
    let line = verb_word Unlock ++ 32 ∷ rest in
    words_found line 0 line 6 (position_from-zero is_word_byte line) refl (position_from-zero is_blank line)

-- the word of a mode is one word
pub mode_alone : (mode : Mode) → words (word_of mode) ≡ word_of mode ∷ []
unfolding words cut_at
mode_alone = each_mode (λ mode. words (word_of mode) ≡ word_of mode ∷ []) refl refl refl refl refl refl

three_asked : (verb : Verb) (set mode : List ℕ) → asked_of (verb_word verb ∷ set ∷ mode ∷ []) ≡ Some (verb_words verb set mode)
three_asked Lock set mode = refl
three_asked Try set mode = refl
three_asked Unlock set mode = refl

-- a verb, a set's word and the word of a mode ask for the mode
pub one_mode_asked : (verb : Verb) (set : List ℕ) (mode : Mode) (line rest last : List ℕ) → words line ≡ verb_word verb ∷ words rest → words rest ≡ set ∷ words last → last ≡ word_of mode
    → asked_of (words line) ≡ Some (verb_words verb set (word_of mode))
one_mode_asked verb set mode line rest last first second third =
    let whole : words line ≡ verb_word verb ∷ set ∷ word_of mode ∷ [] =
    first ∙ ap (λ (ws : List (List ℕ)). verb_word verb ∷ ws) (second ∙ ap (λ (ws : List (List ℕ)). set ∷ ws) (ap words third ∙ mode_alone mode)) in
    ap asked_of whole ∙ three_asked verb set (word_of mode)

-- so is a line that begins with these bytes
pub verb_cut : (verb : Verb) (start line rest : List ℕ) → start ≡ verb_word verb ++ 32 ∷ [] → bytes_eq (take (length start) line) start ≡ true → rest ≡ drop (length start) line
    → words line ≡ verb_word verb ∷ words rest
verb_cut verb start line rest is same behind =
    let front : take (length start) line ≡ start = (bytes_eq-Decides (take (length start) line) start).0 same in
    let whole : line ≡ verb_word verb ++ 32 ∷ rest =
    sym (take-append-drop (length start) line)
    ∙ ap (λ (xs : List ℕ). xs ++ drop (length start) line) (front ∙ is)
    ∙ ap (λ (xs : List ℕ). (verb_word verb ++ 32 ∷ []) ++ xs) (sym behind)
    ∙ append_assoc (verb_word verb) (32 ∷ []) rest in
    ap words whole ∙ verb_first verb rest
