-- Text that is written piece by piece.
use Rattle.std.proofs.Common.{◌≡◌, ◌≢◌, ℕ, suc, Bool, if◌then◌else◌, ne_eqb, ap₂, codes, decimal, ◌+◌, ◌<◌, List, [], ◌∷◌, ◌++◌, length, sym, ap, arith, ◌∙◌, Option, Some, append_assoc, get_or, take, drop, append-nil, slice_get, flat_map}
use Rattle.std.proofs.lemmas.List.{take_more}
use Rattle.std.proofs.lemmas.List.Concat.{flat_map-append}
use Rattle.lt_text.specs.Text.{after_space, each_after_space}
use Rattle.lt_nest.specs.Locks.{Grant}
use Rattle.lt_nest_lines.specs.Input.{InputData}
use Rattle.lt_modes.specs.declared.mode.Mode.{Mode}
use Rattle.lt_modes.specs.Modes.{word_of}
use Rattle.lt_nest_lines.specs.declared.order.Order.{Order}
use Rattle.lt_nest_lines.specs.Play.{PlayState, first_play, name_at, line_of_words, grant_words, grants_text}
use Rattle.lt_nest_lines.specs.Written.{each_below, held_count_line, closing_text, after_orders, orders_text, play_before, report_text}

-- what was written, and one piece more
pub piece_more : (out now before done piece all : List ℕ) → now ≡ out ++ piece → out ≡ before ++ done → done ++ piece ≡ all → now ≡ before ++ all
piece_more out now before done piece all wrote so_far whole =
    wrote ∙ ap (λ (text : List ℕ). text ++ piece) so_far ∙ append_assoc before done piece ∙ ap (λ (text : List ℕ). before ++ text) whole

pub each_below-more : (n : ℕ) (text : ℕ → List ℕ) → each_below n text ++ text n ≡ each_below (n + 1) text
each_below-more n text =
    let one : suc n ≡ n + 1 = omega arith in
    ap (λ (k : ℕ). each_below k text) one

pub flat_map-more : {X A : Type 0} (f : X → List A) (xs : List X) (i : ℕ) (d : X) → i < length xs → flat_map f (take i xs) ++ f (get_or xs i d) ≡ flat_map f (take (i + 1) xs)
flat_map-more {X} {A} f xs i d h =
    sym (ap (λ (ys : List X). flat_map f ys) (take_more xs i d h)
    ∙ (flat_map-append f (take i xs) (get_or xs i d ∷ [])
    ∙ ap (λ (ys : List A). flat_map f (take i xs) ++ ys) (append-nil (f (get_or xs i d)))))

-- the first grant is told, and the others are left
pub grant_told : (d : InputData) (numbers : List (Option ℕ)) (grants : List Grant) (grant : Grant) (out now before : List ℕ) (all : List ℕ) → slice_get grants 0 ≡ Some grant
    → now ≡ out ++ line_of_words (grant_words d numbers grant) → out ++ grants_text d numbers grants ≡ before ++ all → now ++ grants_text d numbers (drop 1 grants) ≡ before ++ all
grant_told d numbers [] grant out now before all first wrote so_far = absurd (cc first)
grant_told d numbers (g ∷ rest) grant out now before all first wrote so_far =
    let same : g ≡ grant = cc first in
    ap (λ (text : List ℕ). text ++ grants_text d numbers rest) wrote
    ∙ append_assoc out (line_of_words (grant_words d numbers grant)) (grants_text d numbers rest)
    ∙ ap (λ (one : Grant). out ++ (line_of_words (grant_words d numbers one) ++ grants_text d numbers rest)) (sym same)
    ∙ so_far

regroup : (a b c d e : List ℕ) → (((a ++ b) ++ c) ++ d) ++ e ≡ a ++ ((b ++ (c ++ d)) ++ e)
regroup a b c d e = simp append_assoc

-- a line of five words, of which the last comes with its end
pub line_joined : (old first a b c last : List ℕ)
    → (((old ++ first) ++ each_after_space (a ∷ b ∷ c ∷ [])) ++ 32 ∷ last) ++ 10 ∷ [] ≡ old ++ line_of_words (first ∷ a ∷ b ∷ c ∷ last ∷ [])
line_joined old first a b c last =
    let three : List ℕ = each_after_space (a ∷ b ∷ c ∷ []) in
    regroup old first three (32 ∷ last) (10 ∷ [])
    ∙ ap (λ (words : List ℕ). old ++ ((first ++ words) ++ 10 ∷ []))
    (sym (flat_map-append after_space (a ∷ b ∷ c ∷ []) (last ∷ []) ∙ ap (λ (end : List ℕ). three ++ end) (append-nil (32 ∷ last))))

-- the line of so many locks
pub held_joined : (d : InputData) (t set : ℕ) (mode : Mode) (n : ℕ) (old now : List ℕ) → n ≢ 0
    → now ≡ (((old ++ codes "held") ++ each_after_space (name_at d.transactions t ∷ name_at d.sets set ∷ word_of mode ∷ [])) ++ 32 ∷ decimal n) ++ 10 ∷ []
    → now ≡ old ++ held_count_line d t set mode n
held_joined d t set mode n old now some e =
    e ∙ line_joined old (codes "held") (name_at d.transactions t) (name_at d.sets set) (word_of mode) (decimal n)
    ∙ ap (λ (none : Bool). old ++ (if none then [] else line_of_words (codes "held" ∷ name_at d.transactions t ∷ name_at d.sets set ∷ word_of mode ∷ decimal n ∷ [])))
    (sym (ne_eqb n 0 some))

-- the text of the orders and the closing lines
pub report_joined : (d : InputData) (out now after : List ℕ) (p q : PlayState) (orders : List Order) (sets : ℕ) → p ≡ first_play sets → sets ≡ length d.sets
    → orders ≡ d.orders → now ≡ out ++ orders_text d p orders → q ≡ after_orders p orders → after ≡ now ++ closing_text d q → after ≡ out ++ report_text d
report_joined d out now after p q orders sets first many all told left closed =
    let start : p ≡ play_before d = first ∙ ap first_play many in
    closed
    ∙ ap₂ (λ (text : List ℕ) (q : PlayState). text ++ closing_text d q)
    (told ∙ ap₂ (λ (p : PlayState) (orders : List Order). out ++ orders_text d p orders) start all)
    (left ∙ ap₂ after_orders start all)
    ∙ append_assoc out (orders_text d (play_before d) d.orders) (closing_text d (after_orders (play_before d) d.orders))
