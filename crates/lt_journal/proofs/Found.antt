-- A line that is not bad is spelled as what it says.
use Rattle.lt_journal.proofs.Written.{same_word, IsSpelled, by_word, number_found, client_found, set_found, node_found, mode_found, bool_found}
use Rattle.std.proofs.Common.{◌≡◌, ℕ, ◌==◌, cond, Bool, true, false, List, [], ◌∷◌, map, fold, codes, Option, Some, None, refl, sym, ap, ◌∙◌, inl, inr, rules, if◌then◌else◌, option_map, bytes_eq}
use Rattle.std.proofs.lemmas.Bool.{cases_Bool}
use Rattle.lt_modes.specs.declared.mode.Mode.{Mode}
use Rattle.lt_modes.specs.declared.moves.Step.{Step}
use Rattle.lt_modes.specs.declared.moves.Step.TheVariants.{Act, Take}
use Rattle.lt_modes.specs.declared.event.Event.TheVariants.{Withdrawn, Void, Withheld}
use Rattle.lt_modes.specs.Modes.{Modes, no_modes, with_mode, word_of, mode_of, modes_in_order}
use Rattle.lt_modes.specs.Script.{ScriptData, set_name, client_name}
use Rattle.lt_journal.specs.RunLines.{step_words, words_of_modes, IsAsWritten}
use Rattle.lt_text.specs.Number.{exact_number}
use Rattle.lt_spec.specs.Script.{set_number, client_number}
use Rattle.lt_journal.specs.declared.line.Line.{Line}
use Rattle.lt_journal.specs.declared.line.Line.TheVariants.{Version2, Version3, Event as EventLine, Waiting, Bad}
use Rattle.lt_spec.specs.Holdings.{Holding}
use Rattle.lt_journal.specs.Grammar.{line_of, read_line, of_third, line_of_two, line_of_four, line_of_five, line_of_many, line_of_freeze, void_line, lock_line, lock_and_line, node_of, step_said, lock_of, lock_by, bool_of, modes_of, with_words, says_none, end_line, version_line, cut_line, busy_line, token_line, owner_line, move_line, drop_line, withdraw_line, copy_line, try_line, change_line, held_line, freeze_line}
use Rattle.lt_journal.proofs.Spelled.{has_words, Both, both}
use Rattle.lt_text.specs.Text.{fields, spaced}
use Rattle.lt_text.proofs.TextLemmas.{spaced_fields}

-- which of the modes are picked
abbrev Picks : List Mode → Type 0
Picks [] = Unit {0}
Picks (mode ∷ modes) = Bool × Picks modes

abbrev picked : (modes : List Mode) → Picks modes → List Mode
picked [] p = []
picked (mode ∷ modes) p = if p.0 then mode ∷ picked modes p.1 else picked modes p.1

-- the words are those of picked modes, and these are the set
record ArePicked (modes : List Mode) (found : Modes) (words : List (List ℕ)) (all : Modes) : Type 0 where
  picks : Picks modes
  words_are : map word_of (picked modes picks) ≡ words
  all_are : fold with_mode found (picked modes picks) ≡ all

none_picked : (modes : List Mode) → (p : Picks modes) × (picked modes p ≡ [])
none_picked [] = (tt, refl)
none_picked (mode ∷ modes) = let later = none_picked modes in ((false, later.0), later.1)

picks_found : (modes : List Mode) (found : Modes) (words : List (List ℕ)) (all : Modes) → with_words modes found words ≡ Some all → ArePicked modes found words all
picks_found [] found [] all e = record { picks = tt; words_are = refl; all_are = cc }
picks_found (mode ∷ modes) found [] all e =
    let none = none_picked (mode ∷ modes) in
    record {
      picks = none.0;
      words_are = ap (λ (ms : List Mode). map word_of ms) none.1;
      all_are = ap (λ (ms : List Mode). fold with_mode found ms) none.1 ∙ (let same : found ≡ all = cc in same);
    }
picks_found [] found (word ∷ words) all e = absurd (cc)
picks_found (mode ∷ modes) found (word ∷ words) all e = elim (cases_Bool (bytes_eq word (word_of mode))) [
  | inl same ↦
      let later = picks_found modes (with_mode found mode) words all (let h = rw same at e in h) in
      record {
        picks = (true, later.picks);
        words_are = ap (λ (w : List ℕ). w ∷ map word_of (picked modes later.picks)) (sym (same_word word (word_of mode) same)) ∙ ap (λ (ws : List (List ℕ)). word ∷ ws) later.words_are;
        all_are = later.all_are;
      }
  | inr other ↦
      let later = picks_found modes found (word ∷ words) all (let h = rw other at e in h) in
      record { picks = (false, later.picks); words_are = later.words_are; all_are = later.all_are }
]

abbrev AreSpelled : Bool → Bool → Bool → Bool → Bool → Bool → Type 0
AreSpelled a b c d e f =
    let modes = picked modes_in_order (a, (b, (c, (d, (e, (f, tt)))))) in
    (has_words (map word_of modes) ≡ true) → words_of_modes (fold with_mode no_modes modes) ≡ map word_of modes

absurd_none : {X : Type 0} → false ≡ true → X
absurd_none e = absurd (cc)

all_spelled : Both (λ a. Both (λ b. Both (λ c. Both (λ d. Both (λ e. Both (AreSpelled a b c d e))))))
all_spelled = search (rules, absurd_none)

modes_found : (words : List (List ℕ)) (modes : Modes) → has_words words ≡ true → modes_of words ≡ Some modes → words_of_modes modes ≡ words
modes_found words modes some e = elim (cases_Bool (says_none words)) [
  | inl none ↦
      let same : no_modes ≡ modes = let h = rw none at e in cc in
      ap words_of_modes (sym same) ∙ is_none words none
  | inr other ↦
      let picks = picks_found modes_in_order no_modes words modes (let h = rw other at e in h) in
      let p = picks.picks in
      let by_first = both (λ x. Both (λ y. Both (λ z. Both (λ w. Both (λ v. Both (AreSpelled x y z w v)))))) all_spelled p.0 in
      let by_second = both (λ y. Both (λ z. Both (λ w. Both (λ v. Both (AreSpelled p.0 y z w v))))) by_first p.1.0 in
      let by_third = both (λ z. Both (λ w. Both (λ v. Both (AreSpelled p.0 p.1.0 z w v)))) by_second p.1.1.0 in
      let by_fourth = both (λ w. Both (λ v. Both (AreSpelled p.0 p.1.0 p.1.1.0 w v))) by_third p.1.1.1.0 in
      let by_fifth = both (λ v. Both (AreSpelled p.0 p.1.0 p.1.1.0 p.1.1.1.0 v)) by_fourth p.1.1.1.1.0 in
      let spelled = both (AreSpelled p.0 p.1.0 p.1.1.0 p.1.1.1.0 p.1.1.1.1.0) by_fifth p.1.1.1.1.1.0 in
      ap words_of_modes (sym picks.all_are) ∙ (spelled (ap has_words picks.words_are ∙ some) ∙ picks.words_are)
]
  where
    is_none : (ws : List (List ℕ)) → says_none ws ≡ true → words_of_modes no_modes ≡ ws
    is_none [] h = absurd (cc)
    is_none (word ∷ []) h = ap (λ (w : List ℕ). w ∷ []) (sym (same_word word (codes "none") h))
    is_none (word ∷ next ∷ later) h = absurd (cc)

-- a line of version 3 alone is spelled so, or it is bad
third_found : (script : ScriptData) (words : List (List ℕ)) (x : Line) → IsSpelled script words x → IsSpelled script words (of_third script.version x)
third_found script words x spelled = elim (script.version == 3) as (λ t. IsSpelled script words (cond t x Bad)) [ true ↦ spelled | false ↦ inl refl ]

two_found : (script : ScriptData) (word a : List ℕ) → IsSpelled script (word ∷ a ∷ []) (line_of_two script word a)
two_found script word a =
    by_word (IsSpelled script (word ∷ a ∷ [])) word (codes "end") (end_line (exact_number a)) (cond (bytes_eq word (codes "cut")) (cut_line (node_of script a)) (cond (bytes_eq word (codes "version")) (version_line script.version a) Bad)) (λ e. end (exact_number a) e refl)
    (by_word (IsSpelled script (word ∷ a ∷ [])) word (codes "cut") (cut_line (node_of script a)) (cond (bytes_eq word (codes "version")) (version_line script.version a) Bad) (λ e. cut (node_of script a) e refl)
    (by_word (IsSpelled script (word ∷ a ∷ [])) word (codes "version") (version_line script.version a) Bad version (inl refl)))
  where
    version : word ≡ codes "version" → IsSpelled script (word ∷ a ∷ []) (version_line script.version a)
    version e =
        by_word (IsSpelled script (word ∷ a ∷ [])) a (codes "2") Version2 (cond (bytes_eq a (codes "3")) (of_third script.version Version3) Bad) (λ f. inr (rw (e, f) refl))
        (by_word (IsSpelled script (word ∷ a ∷ [])) a (codes "3") (of_third script.version Version3) Bad (λ f. third_found script (word ∷ a ∷ []) Version3 (inr (rw (e, f) refl))) (inl refl))

    end : (o : Option ℕ) → word ≡ codes "end" → exact_number a ≡ o → IsSpelled script (word ∷ a ∷ []) (end_line o)
    end None e f = inl refl
    end (Some n) e f = inr (rw (e, number_found a n f))

    cut : (o : Option ℕ) → word ≡ codes "cut" → node_of script a ≡ o → IsSpelled script (word ∷ a ∷ []) (cut_line o)
    cut None e f = inl refl
    cut (Some n) e f = inr (rw (e, node_found script a n f))

lock_found : (script : ScriptData) (a b c : List ℕ) (lock : Holding) → lock_of script a b c ≡ Some lock
    → (client_name script lock.client ≡ a) × (set_name script lock.set ≡ b) × (word_of lock.mode ≡ c)
lock_found script a b c lock e = from (client_number script a) (set_number script b) (mode_of c) refl refl refl e
  where
    from : (x y : Option ℕ) (z : Option Mode) → client_number script a ≡ x → set_number script b ≡ y → mode_of c ≡ z → lock_by x y z ≡ Some lock
        → (client_name script lock.client ≡ a) × (set_name script lock.set ≡ b) × (word_of lock.mode ≡ c)
    from (Some client) (Some set) (Some mode) f g h k =
        let same : record { client = client; set = set; mode = mode } ≡ lock = cc in (
          sym (ap (λ (l : Holding). client_name script l.client) same) ∙ client_found script a client f,
          sym (ap (λ (l : Holding). set_name script l.set) same) ∙ set_found script b set g,
          sym (ap (λ (l : Holding). word_of l.mode) same) ∙ mode_found c mode h,
        )
    from x y z f g h k = absurd (cc)

void_line_found : (script : ScriptData) (word a b c : List ℕ) (lock : Holding) → (client_name script lock.client ≡ a) × (set_name script lock.set ≡ b) × (word_of lock.mode ≡ c)
    → IsSpelled script (word ∷ a ∷ b ∷ c ∷ []) (void_line script.version word lock)
void_line_found script word a b c lock found =
    by_word P word (codes "withdrawn") _ _ (λ f. third_found script ws (EventLine (Withdrawn lock.client lock.set lock.mode)) (inr (rw (f, found.0, found.1, found.2))))
    (by_word P word (codes "void") _ _ (λ f. third_found script ws (EventLine (Void lock.client lock.set lock.mode)) (inr (rw (f, found.0, found.1, found.2))))
    (by_word P word (codes "withheld") (of_third script.version (EventLine (Withheld lock.client lock.set lock.mode))) Bad
    (λ f. third_found script ws (EventLine (Withheld lock.client lock.set lock.mode)) (inr (rw (f, found.0, found.1, found.2)))) (inl refl)))
  where
    ws : List (List ℕ)
    ws = word ∷ a ∷ b ∷ c ∷ []

    P : Line → Type 0
    P x = IsSpelled script (word ∷ a ∷ b ∷ c ∷ []) x

lock_line_found : (script : ScriptData) (word a b c : List ℕ) (o : Option Holding) → lock_of script a b c ≡ o → IsSpelled script (word ∷ a ∷ b ∷ c ∷ []) (lock_line script.version word o)
lock_line_found script word a b c None e = inl refl
lock_line_found script word a b c (Some lock) e =
    let found = lock_found script a b c lock e in
    by_word P word (codes "grant") _ _ (λ f. inr (rw (f, found.0, found.1, found.2)))
    (by_word P word (codes "wait") _ _ (λ f. inr (rw (f, found.0, found.1, found.2)))
    (by_word P word (codes "unlock") _ _ (λ f. inr (rw (f, found.0, found.1, found.2)))
    (by_word P word (codes "not_held") _ _ (λ f. inr (rw (f, found.0, found.1, found.2)))
    (by_word P word (codes "waiting") (Waiting lock.client lock.set lock.mode) _ (λ f. inr (rw (f, found.0, found.1, found.2))) (void_line_found script word a b c lock found)))))
  where
    P : Line → Type 0
    P x = IsSpelled script (word ∷ a ∷ b ∷ c ∷ []) x

four_found : (script : ScriptData) (word a b c : List ℕ) → IsSpelled script (word ∷ a ∷ b ∷ c ∷ []) (line_of_four script word a b c)
four_found script word a b c =
    by_word P word (codes "busy") _ _ (λ e. busy (client_number script a) (client_number script b) (set_number script c) e refl refl refl)
    (by_word P word (codes "token") _ _ (λ e. token (set_number script a) (node_of script b) (exact_number c) e refl refl refl)
    (by_word P word (codes "owner") _ _ (λ e. owner (set_number script a) (node_of script b) (exact_number c) e refl refl refl)
    (lock_line_found script word a b c (lock_of script a b c) refl)))
  where
    P : Line → Type 0
    P x = IsSpelled script (word ∷ a ∷ b ∷ c ∷ []) x

    busy : (x y z : Option ℕ) → word ≡ codes "busy" → client_number script a ≡ x → client_number script b ≡ y → set_number script c ≡ z → P (busy_line x y z)
    busy (Some x) (Some y) (Some z) e f g h = inr (rw (e, client_found script a x f, client_found script b y g, set_found script c z h))
    busy x y z e f g h = inl refl

    token : (x y z : Option ℕ) → word ≡ codes "token" → set_number script a ≡ x → node_of script b ≡ y → exact_number c ≡ z → P (token_line x y z)
    token (Some x) (Some y) (Some z) e f g h = inr (rw (e, set_found script a x f, node_found script b y g, number_found c z h))
    token x y z e f g h = inl refl

    owner : (x y z : Option ℕ) → word ≡ codes "owner" → set_number script a ≡ x → node_of script b ≡ y → exact_number c ≡ z → P (owner_line x y z)
    owner (Some x) (Some y) (Some z) e f g h = inr (rw (e, set_found script a x f, node_found script b y g, number_found c z h))
    owner x y z e f g h = inl refl

step_found : (script : ScriptData) (verb word : List ℕ) (step : Step) → step_said script verb word ≡ Some step → step_words script step ≡ verb ∷ word ∷ []
step_found script verb word step e = elim (cases_Bool (bytes_eq verb (codes "act"))) [
  | inl same ↦ act (client_number script word) (same_word verb (codes "act") same) refl (let h = rw same at e in h)
  | inr other ↦ elim (cases_Bool (bytes_eq verb (codes "take"))) [
    | inl same ↦ take_from (node_of script word) (same_word verb (codes "take") same) refl (let h = rw (other, same) at e in h)
    | inr neither ↦ absurd (let h = rw (other, neither) at e in cc)
  ]
]
  where
    act : (o : Option ℕ) → verb ≡ codes "act" → client_number script word ≡ o → option_map Act o ≡ Some step → step_words script step ≡ verb ∷ word ∷ []
    act None f g h = absurd (cc)
    act (Some client) f g h =
        let same : Act client ≡ step = cc in
        sym (ap (step_words script) same) ∙ rw (f, client_found script word client g)

    take_from : (o : Option ℕ) → verb ≡ codes "take" → node_of script word ≡ o → option_map Take o ≡ Some step → step_words script step ≡ verb ∷ word ∷ []
    take_from None f g h = absurd (cc)
    take_from (Some node) f g h =
        let same : Take node ≡ step = cc in
        sym (ap (step_words script) same) ∙ rw (f, node_found script word node g)

lock_and_found : (script : ScriptData) (word a b c d : List ℕ) (o : Option Holding) → lock_of script a b c ≡ o → IsSpelled script (word ∷ a ∷ b ∷ c ∷ d ∷ []) (lock_and_line word o d)
lock_and_found script word a b c d None e = inl refl
lock_and_found script word a b c d (Some lock) e =
    by_word P word (codes "try") _ _ (λ f. try (bool_of d) f refl)
    (by_word P word (codes "change") _ _ (λ f. change (mode_of d) f refl)
    (by_word P word (codes "held") (held_line lock (exact_number d)) Bad (λ f. held (exact_number d) f refl) (inl refl)))
  where
    P : Line → Type 0
    P x = IsSpelled script (word ∷ a ∷ b ∷ c ∷ d ∷ []) x

    found : (client_name script lock.client ≡ a) × (set_name script lock.set ≡ b) × (word_of lock.mode ≡ c)
    found = lock_found script a b c lock e

    try : (o : Option Bool) → word ≡ codes "try" → bool_of d ≡ o → P (try_line lock o)
    try None f g = inl refl
    try (Some got) f g = inr (rw (f, found.0, found.1, found.2, bool_found d got g))

    change : (o : Option Mode) → word ≡ codes "change" → mode_of d ≡ o → P (change_line lock o)
    change None f g = inl refl
    change (Some mode) f g = inr (rw (f, found.0, found.1, found.2, mode_found d mode g))

    held : (o : Option ℕ) → word ≡ codes "held" → exact_number d ≡ o → P (held_line lock o)
    held None f g = inl refl
    held (Some count) f g = inr (rw (f, found.0, found.1, found.2, number_found d count g))

five_found : (script : ScriptData) (word a b c d : List ℕ) → IsSpelled script (word ∷ a ∷ b ∷ c ∷ d ∷ []) (line_of_five script word a b c d)
five_found script word a b c d =
    by_word P word (codes "move") _ _ (λ e. move (exact_number a) (node_of script b) (step_said script c d) e refl refl refl)
    (by_word P word (codes "drop") _ _ (λ e. drops (client_number script a) (client_number script b) (set_number script c) (exact_number d) e refl refl refl refl)
    (by_word P word (codes "withdraw") _ _
    (λ e. third_found script (word ∷ a ∷ b ∷ c ∷ d ∷ []) (withdraw_line (client_number script a) (client_number script b) (set_number script c) (bool_of d))
    (withdraw (client_number script a) (client_number script b) (set_number script c) (bool_of d) e refl refl refl refl))
    (by_word P word (codes "copy") _ _ (λ e. copy (set_number script a) (node_of script b) (client_number script c) (mode_of d) e refl refl refl refl)
    (lock_and_found script word a b c d (lock_of script a b c) refl))))
  where
    P : Line → Type 0
    P x = IsSpelled script (word ∷ a ∷ b ∷ c ∷ d ∷ []) x

    move : (x y : Option ℕ) (z : Option Step) → word ≡ codes "move" → exact_number a ≡ x → node_of script b ≡ y → step_said script c d ≡ z → P (move_line x y z)
    move (Some x) (Some y) (Some z) e f g h = inr (rw (e, number_found a x f, node_found script b y g, step_found script c d z h))
    move x y z e f g h = inl refl

    drops : (x y z w : Option ℕ) → word ≡ codes "drop" → client_number script a ≡ x → client_number script b ≡ y → set_number script c ≡ z → exact_number d ≡ w → P (drop_line x y z w)
    drops (Some x) (Some y) (Some z) (Some w) e f g h k = inr (rw (e, client_found script a x f, client_found script b y g, set_found script c z h, number_found d w k))
    drops x y z w e f g h k = inl refl

    withdraw : (x y z : Option ℕ) (w : Option Bool) → word ≡ codes "withdraw" → client_number script a ≡ x → client_number script b ≡ y → set_number script c ≡ z → bool_of d ≡ w → P (withdraw_line x y z w)
    withdraw (Some x) (Some y) (Some z) (Some w) e f g h k = inr (rw (e, client_found script a x f, client_found script b y g, set_found script c z h, bool_found d w k))
    withdraw x y z w e f g h k = inl refl

    copy : (x y z : Option ℕ) (w : Option Mode) → word ≡ codes "copy" → set_number script a ≡ x → node_of script b ≡ y → client_number script c ≡ z → mode_of d ≡ w → P (copy_line x y z w)
    copy (Some x) (Some y) (Some z) (Some w) e f g h k = inr (rw (e, set_found script a x f, node_found script b y g, client_found script c z h, mode_found d w k))
    copy x y z w e f g h k = inl refl

freeze_found : (script : ScriptData) (word a b c : List ℕ) (words : List (List ℕ)) → word ≡ codes "freeze" → has_words words ≡ true
    → IsSpelled script (word ∷ a ∷ b ∷ c ∷ words) (line_of_freeze script a b c words)
freeze_found script word a b c words e some = from (set_number script a) (node_of script b) (exact_number c) (modes_of words) refl refl refl refl
  where
    from : (x y z : Option ℕ) (w : Option Modes) → set_number script a ≡ x → node_of script b ≡ y → exact_number c ≡ z → modes_of words ≡ w
        → IsSpelled script (word ∷ a ∷ b ∷ c ∷ words) (freeze_line x y z w)
    from (Some x) (Some y) (Some z) (Some w) f g h k =
        inr (rw (e, set_found script a x f, node_found script b y g, number_found c z h, modes_found words w some k))
    from x y z w f g h k = inl refl

many_found : (script : ScriptData) (word a b c d : List ℕ) (later : List (List ℕ)) → IsSpelled script (word ∷ a ∷ b ∷ c ∷ d ∷ later) (line_of_many script word a b c d later)
many_found script word a b c d [] =
    by_word (IsSpelled script (word ∷ a ∷ b ∷ c ∷ d ∷ [])) word (codes "freeze") _ _ (λ e. freeze_found script word a b c (d ∷ []) e refl) (five_found script word a b c d)
many_found script word a b c d (next ∷ later) =
    by_word (IsSpelled script (word ∷ a ∷ b ∷ c ∷ d ∷ next ∷ later)) word (codes "freeze") _ Bad (λ e. freeze_found script word a b c (d ∷ next ∷ later) e refl) (inl refl)

line_found : (script : ScriptData) (words : List (List ℕ)) → IsSpelled script words (line_of script words)
line_found script [] = inl refl
line_found script (word ∷ []) = inl refl
line_found script (word ∷ a ∷ []) = two_found script word a
line_found script (word ∷ a ∷ b ∷ []) = inl refl
line_found script (word ∷ a ∷ b ∷ c ∷ []) = four_found script word a b c
line_found script (word ∷ a ∷ b ∷ c ∷ d ∷ later) = many_found script word a b c d later

pub as_written : (script : ScriptData) (line : List ℕ) → IsAsWritten script line (read_line script line)
as_written script line = elim (line_found script (fields line)) [
  | inl bad ↦ inl bad
  | inr same ↦ inr (ap spaced same ∙ spaced_fields line)
]
