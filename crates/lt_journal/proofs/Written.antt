-- Words that are read are spelled as they stand.
use Rattle.std.proofs.Common.{◌≡◌, ℕ, ◌^◌, ◌&&◌, ◌⊎◌, cond, not, Bool, true, false, List, [], length, nat_lt, nat_le, get_or, Option, Some, None, sym, ap, ◌∙◌, inl, inr, arith, ◌∷◌, ◌++◌, map, filter, codes, refl, subst, ◌<◌, decimal, bytes_eq, leb-true, ltb-true, ne_eqb, flat_map}
use Rattle.std.specs.Str.Parse.{digits_value}
use Rattle.std.proofs.lemmas.Bool.{cases_Bool, not-true, and_parts}
use Rattle.std.proofs.lemmas.List.Quantifiers.{position-Some}
use Rattle.std.proofs.lemmas.Option.{slice_get-get_or}
use Rattle.std.proofs.lemmas.Slice.Eq.{bytes_eq-Decides}
use Rattle.std.specs.List.{list_all, AllByRecursion}
use Rattle.lt_modes.specs.declared.mode.Mode.{Mode}
use Rattle.lt_modes.specs.declared.mode.Mode.TheVariants.{IntentionRead, Read, Upgrade, IntentionWrite, ReadIntentionWrite, Write}
use Rattle.lt_modes.specs.Modes.{word_of, mode_of, Modes, has, has_none, modes_in_order}
use Rattle.lt_modes.specs.Script.{ScriptData, SetData, ClientData, set_name, client_name, name_of_set, name_of_client}
use Rattle.lt_modes.specs.declared.moves.Step.{Step}
use Rattle.lt_modes.specs.declared.moves.Step.TheVariants.{Act, Take}
use Rattle.lt_modes.specs.declared.event.Event.{Event}
use Rattle.lt_modes.specs.declared.event.Event.TheVariants.{Grant, Wait, Try, Unlock, NotHeld, Change, DropAll, Busy, Withdraw, Withdrawn, Void, Withheld, Copy, Freeze, Token}
use Rattle.lt_modes.proofs.ModeAlgebra.{each_mode}
use Rattle.lt_spec.specs.Script.{set_number, client_number, is_name, is_name_byte, IsScript}
use Rattle.lt_text.specs.Number.{exact_number, is_numeral, has_leading_zero, are_digits}
use Rattle.lt_text.proofs.NumberLemmas.{decimal_value}
use Rattle.lt_text.specs.Text.{after_space, lines, cut_at, fields, spaced}
use Rattle.lt_journal.specs.RunLines.{word_of_bool, line_words, words_of_modes, member_words, step_words, event_words, lines_text}
use Rattle.lt_journal.specs.declared.line.Line.{Line}
use Rattle.lt_journal.specs.declared.line.Line.TheVariants.{Bad, Version2, Version3, Move as MoveLine, Event as EventLine, Held, Waiting, Owner, End, Cut}
use Rattle.lt_journal.specs.Grammar.{node_of, below, bool_of, line_of, read_line, journal_of}
use Rattle.lt_journal.proofs.Fitting.{is_plain_byte, is_plain, IsNamed, FewNodes}
use Rattle.lt_journal.specs.LineFits.{IsNumber, FitsStep, FitsEvent, FitsLine}
use Rattle.lt_journal.proofs.Plain.{IsPlain, ArePlain, plain, plain_decimal, lines_line, fields_line}
use Rattle.lt_journal.proofs.Spelled.{line_read}

pub same_word : (word other : List ℕ) → bytes_eq word other ≡ true → word ≡ other
same_word word other e = (bytes_eq-Decides word other).0 e

-- the line is bad, or its words are these
abbrev pub IsSpelled : ScriptData → List (List ℕ) → Line → Type 0
IsSpelled script words x = (x ≡ Bad) ⊎ (line_words script x ≡ words)

pub by_word : (P : Line → Type 0) (word other : List ℕ) (x y : Line) → (word ≡ other → P x) → P y → P (cond (bytes_eq word other) x y)
by_word P word other x y f g = elim (cases_Bool (bytes_eq word other)) [
  | inl e ↦ rw e (f (same_word word other e))
  | inr e ↦ rw e g
]

pub number_found : (word : List ℕ) (n : ℕ) → exact_number word ≡ Some n → decimal n ≡ word
number_found word n e = elim (cases_Bool (is_numeral word 20 && not (has_leading_zero word) && nat_lt (digits_value 10 word) (2 ^ 64))) [
  | inl is ↦
      let value : digits_value 10 word ≡ n = let h = rw is at e in cc in
      let outer = and_parts (is_numeral word 20 && not (has_leading_zero word)) (nat_lt (digits_value 10 word) (2 ^ 64)) is in
      let numeral = and_parts (is_numeral word 20) (not (has_leading_zero word)) outer.0 in
      let parts = and_parts (nat_lt 0 (length word) && nat_le (length word) 20) (are_digits word) numeral.0 in
      let sizes = and_parts (nat_lt 0 (length word)) (nat_le (length word) 20) parts.0 in
      let some = ltb-true 0 (length word) sizes.0 in
      sym (decimal_value word (ne_eqb (length word) 0 (λ h. omega (arith, h, some))) (leb-true (length word) 20 sizes.1) parts.1 (not-true (has_leading_zero word) numeral.1) (ltb-true (digits_value 10 word) (2 ^ 64) outer.1)
      ∙ ap decimal value)
  | inr other ↦ absurd (let h = rw other at e in cc)
]

pub client_found : (script : ScriptData) (word : List ℕ) (k : ℕ) → client_number script word ≡ Some k → client_name script k ≡ word
client_found script word k e =
    let none : ClientData = record { name = []; node = 0 } in
    let found = position-Some (λ (x : ClientData). bytes_eq x.name word) script.clients k none e in
    ap name_of_client (slice_get-get_or script.clients k none found.0) ∙ same_word (get_or script.clients k none).name word found.1

pub set_found : (script : ScriptData) (word : List ℕ) (k : ℕ) → set_number script word ≡ Some k → set_name script k ≡ word
set_found script word k e =
    let none : SetData = record { name = []; family = 0 } in
    let found = position-Some (λ (x : SetData). bytes_eq x.name word) script.sets k none e in
    ap name_of_set (slice_get-get_or script.sets k none found.0) ∙ same_word (get_or script.sets k none).name word found.1

pub node_found : (script : ScriptData) (word : List ℕ) (k : ℕ) → node_of script word ≡ Some k → decimal k ≡ word
node_found script word k e = number_found word k (from (exact_number word) e)
  where
    from : (o : Option ℕ) → below script.nodes o ≡ Some k → o ≡ Some k
    from None h = absurd (cc)
    from (Some n) h = elim (cases_Bool (nat_lt n script.nodes)) [
      | inl same ↦ let g = rw same at h in g
      | inr other ↦ absurd (let g = rw other at h in cc)
    ]

pub mode_found : (word : List ℕ) (mode : Mode) → mode_of word ≡ Some mode → word_of mode ≡ word
mode_found word mode e =
    pick IntentionRead _ (pick Read _ (pick Upgrade _ (pick IntentionWrite _ (pick ReadIntentionWrite _ (pick Write None (λ h. absurd (cc))))))) e
  where
    pick : (m : Mode) (later : Option Mode) → (later ≡ Some mode → word_of mode ≡ word) → cond (bytes_eq word (word_of m)) (Some m) later ≡ Some mode → word_of mode ≡ word
    pick m later f h = elim (cases_Bool (bytes_eq word (word_of m))) [
      | inl same ↦ let g : m ≡ mode = let k = rw same at h in cc in sym (ap word_of g) ∙ sym (same_word word (word_of m) same)
      | inr other ↦ f (let g = rw other at h in g)
    ]

pub bool_found : (word : List ℕ) (got : Bool) → bool_of word ≡ Some got → word_of_bool got ≡ word
bool_found word got e =
    pick true _ (pick false None (λ h. absurd (cc))) e
  where
    pick : (b : Bool) (later : Option Bool) → (later ≡ Some got → word_of_bool got ≡ word) → cond (bytes_eq word (word_of_bool b)) (Some b) later ≡ Some got → word_of_bool got ≡ word
    pick b later f h = elim (cases_Bool (bytes_eq word (word_of_bool b))) [
      | inl same ↦ let g : b ≡ got = let k = rw same at h in cc in sym (ap word_of_bool g) ∙ sym (same_word word (word_of_bool b) same)
      | inr other ↦ f (let g = rw other at h in g)
    ]

-- The words of a set of modes, one mode after the other.

kept_words : (modes : Modes) (ms : List Mode)
    → flat_map after_space (map word_of (filter (λ mode. has mode modes) ms)) ≡ flat_map (member_words modes) ms
kept_words modes [] = refl
kept_words modes (m ∷ ms) = by_test (has m modes) (kept_words modes ms)
  where
    rest : List Mode
    rest = filter (λ mode. has mode modes) ms

    by_test : (t : Bool) → flat_map after_space (map word_of rest) ≡ flat_map (member_words modes) ms
        → flat_map after_space (map word_of (cond t (m ∷ rest) rest)) ≡ cond t (after_space (word_of m)) [] ++ flat_map (member_words modes) ms
    by_test true later = ap (λ (t : List ℕ). after_space (word_of m) ++ t) later
    by_test false later = later

pub words_kept : (modes : Modes) → has_none modes ≡ false → flat_map after_space (words_of_modes modes) ≡ flat_map (member_words modes) modes_in_order
words_kept modes some =
    ap (λ (b : Bool). flat_map after_space (cond b (codes "none" ∷ []) (map word_of (filter (λ mode. has mode modes) modes_in_order)))) some
    ∙ kept_words modes modes_in_order

-- The names of a script can stand in a line, and each is found as its own.

no_name_byte : {A : Type 0} (byte other : ℕ) → is_name_byte byte ≡ true → byte ≡ other → (is_name_byte other ≡ true → A) → A
no_name_byte byte other named e none = none (subst (λ (b : ℕ). is_name_byte b ≡ true) e named)

plain_name_byte : (byte : ℕ) → is_name_byte byte ≡ true → is_plain_byte byte ≡ true
plain_name_byte byte named =
    rw (
      ne_eqb byte 32 (λ e. no_name_byte byte 32 named e (λ h. cc)),
      ne_eqb byte 10 (λ e. no_name_byte byte 10 named e (λ h. cc)),
      ne_eqb byte 13 (λ e. no_name_byte byte 13 named e (λ h. cc)),
    ) refl

plain_bytes : (word : List ℕ) → list_all is_name_byte word ≡ true → is_plain word ≡ true
plain_bytes [] named = refl
plain_bytes (byte ∷ word) named =
    let parts = and_parts (is_name_byte byte) (list_all is_name_byte word) named in
    rw (plain_name_byte byte parts.0, plain_bytes word parts.1) refl

plain_name : (word : List ℕ) → is_name word ≡ true → is_plain word ≡ true
plain_name word named = plain_bytes word (and_parts _ _ (and_parts _ _ named).0).1

pub named : (script : ScriptData) → IsScript script → IsNamed script
named script is_script = record {
  plain_sets = λ set inside. plain_name (set_name script set) (is_script.sets_named set inside);
  sets_apart = is_script.sets_found;
  plain_clients = λ client inside. plain_name (client_name script client) (is_script.clients_named client inside);
  clients_apart = is_script.clients_found;
}

pub few_nodes : (script : ScriptData) → IsScript script → FewNodes script
few_nodes script is_script = omega (arith, is_script.few_nodes)

-- The text of lines is read as these lines.

-- a node or another small number is plain
plain_number : (n : ℕ) → IsNumber n → IsPlain (decimal n)
plain_number n small = plain_decimal n small

plain_set : (script : ScriptData) (set : ℕ) → IsNamed script → set < length script.sets → IsPlain (set_name script set)
plain_set script set named has_set = plain (set_name script set) (named.plain_sets set has_set)

plain_client : (script : ScriptData) (client : ℕ) → IsNamed script → client < length script.clients → IsPlain (client_name script client)
plain_client script client named has_client = plain (client_name script client) (named.plain_clients client has_client)

plain_node : (script : ScriptData) (node : ℕ) → FewNodes script → node < script.nodes → IsPlain (decimal node)
plain_node script node few below = plain_decimal node (omega arith)

plain_mode : (mode : Mode) → IsPlain (word_of mode)
plain_mode mode = plain (word_of mode) (each_mode (λ m. is_plain (word_of m) ≡ true) refl refl refl refl refl refl mode)

plain_bool : (got : Bool) → IsPlain (word_of_bool got)
plain_bool true = plain (word_of_bool true) refl
plain_bool false = plain (word_of_bool false) refl

plain_modes_in : (modes : List Mode) → ArePlain (map word_of modes)
plain_modes_in [] = tt
plain_modes_in (mode ∷ modes) = (plain_mode mode, plain_modes_in modes)

plain_modes : (modes : Modes) → ArePlain (words_of_modes modes)
plain_modes modes = elim (has_none modes) as (λ none. ArePlain (cond none (codes "none" ∷ []) (map word_of (filter (λ mode. has mode modes) modes_in_order)))) [
  | true ↦ (plain (codes "none") refl, tt)
  | false ↦ plain_modes_in (filter (λ mode. has mode modes) modes_in_order)
]

plain_step : (script : ScriptData) (step : Step) → IsNamed script → FewNodes script → FitsStep script step → ArePlain (step_words script step)
plain_step script (Act client) named few fits = (plain (codes "act") refl, (plain_client script client named fits, tt))
plain_step script (Take from) named few fits = (plain (codes "take") refl, (plain_node script from few fits, tt))

plain_event : (script : ScriptData) (event : Event) → IsNamed script → FewNodes script → FitsEvent script event → ArePlain (event_words script event)
plain_event script (Grant client set mode) named few fits =
    (plain (codes "grant") refl, (plain_client script client named fits.0, (plain_set script set named fits.1, (plain_mode mode, tt))))
plain_event script (Wait client set mode) named few fits =
    (plain (codes "wait") refl, (plain_client script client named fits.0, (plain_set script set named fits.1, (plain_mode mode, tt))))
plain_event script (Try client set mode got) named few fits =
    (plain (codes "try") refl, (plain_client script client named fits.0, (plain_set script set named fits.1, (plain_mode mode, (plain_bool got, tt)))))
plain_event script (Unlock client set mode) named few fits =
    (plain (codes "unlock") refl, (plain_client script client named fits.0, (plain_set script set named fits.1, (plain_mode mode, tt))))
plain_event script (NotHeld client set mode) named few fits =
    (plain (codes "not_held") refl, (plain_client script client named fits.0, (plain_set script set named fits.1, (plain_mode mode, tt))))
plain_event script (Change client set gives_up mode) named few fits =
    (plain (codes "change") refl, (plain_client script client named fits.0, (plain_set script set named fits.1, (plain_mode gives_up, (plain_mode mode, tt)))))
plain_event script (DropAll client other set count) named few fits =
    (plain (codes "drop") refl, (plain_client script client named fits.0, (plain_client script other named fits.1, (plain_set script set named fits.2, (plain_number count fits.3, tt)))))
plain_event script (Busy client other set) named few fits =
    (plain (codes "busy") refl, (plain_client script client named fits.0, (plain_client script other named fits.1, (plain_set script set named fits.2, tt))))
plain_event script (Withdraw client other set got) named few fits =
    (plain (codes "withdraw") refl, (plain_client script client named fits.0, (plain_client script other named fits.1, (plain_set script set named fits.2, (plain_bool got, tt)))))
plain_event script (Withdrawn client set mode) named few fits =
    (plain (codes "withdrawn") refl, (plain_client script client named fits.0, (plain_set script set named fits.1, (plain_mode mode, tt))))
plain_event script (Void client set mode) named few fits =
    (plain (codes "void") refl, (plain_client script client named fits.0, (plain_set script set named fits.1, (plain_mode mode, tt))))
plain_event script (Withheld client set mode) named few fits =
    (plain (codes "withheld") refl, (plain_client script client named fits.0, (plain_set script set named fits.1, (plain_mode mode, tt))))
plain_event script (Copy set to client mode) named few fits =
    (plain (codes "copy") refl, (plain_set script set named fits.0, (plain_node script to few fits.1, (plain_client script client named fits.2, (plain_mode mode, tt)))))
plain_event script (Freeze set to number modes) named few fits =
    (plain (codes "freeze") refl, (plain_set script set named fits.0, (plain_node script to few fits.1, (plain_number number fits.2, plain_modes modes))))
plain_event script (Token set to epoch) named few fits =
    (plain (codes "token") refl, (plain_set script set named fits.0, (plain_node script to few fits.1, (plain_number epoch fits.2, tt))))

pub plain_line : (script : ScriptData) (x : Line) → IsNamed script → FewNodes script → FitsLine script x → ArePlain (line_words script x)
plain_line script Version2 named few fits = (plain (codes "version") refl, (plain (codes "2") refl, tt))
plain_line script Version3 named few fits = (plain (codes "version") refl, (plain (codes "3") refl, tt))
plain_line script (MoveLine clock node step) named few fits =
    (plain (codes "move") refl, (plain_number clock fits.0, (plain_node script node few fits.1, plain_step script step named few fits.2)))
plain_line script (EventLine event) named few fits = plain_event script event named few fits
plain_line script (Held client set mode count) named few fits =
    (plain (codes "held") refl, (plain_client script client named fits.0, (plain_set script set named fits.1, (plain_mode mode, (plain_number count fits.2, tt)))))
plain_line script (Waiting client set mode) named few fits =
    (plain (codes "waiting") refl, (plain_client script client named fits.0, (plain_set script set named fits.1, (plain_mode mode, tt))))
plain_line script (Owner set node epoch) named few fits =
    (plain (codes "owner") refl, (plain_set script set named fits.0, (plain_node script node few fits.1, (plain_number epoch fits.2, tt))))
plain_line script (End count) named few fits = (plain (codes "end") refl, (plain_number count fits, tt))
plain_line script (Cut node) named few fits = (plain (codes "cut") refl, (plain_node script node few fits, tt))
plain_line script Bad named few fits = absurd fits

-- no line is spelled with no word, but for a bad one
fields_spelled : (script : ScriptData) (words : List (List ℕ)) (x : Line) → ArePlain words → line_of script words ≡ x → FitsLine script x → line_of script (fields (spaced words)) ≡ x
fields_spelled script [] x all e fits = absurd (subst (FitsLine script) (sym e) fits)
fields_spelled script (first ∷ later) x all e fits = ap (line_of script) (fields_line first later all) ∙ e

-- what is written of a line is read as this line
pub line_back : (script : ScriptData) (x : Line) → IsNamed script → FewNodes script → FitsLine script x → read_line script (spaced (line_words script x)) ≡ x
line_back script x named few fits =
    fields_spelled script (line_words script x) x (plain_line script x named few fits) (line_read script x named few fits) fits

pub read_back : (script : ScriptData) (xs : List Line) → IsNamed script → FewNodes script → AllByRecursion (FitsLine script) xs → journal_of script (lines_text script xs) ≡ xs
unfolding lines cut_at
read_back script [] named few fits = refl
read_back script (x ∷ xs) named few fits =
    let all = plain_line script x named few fits.0 in
    let rest = lines_text script xs in
    let here = line_back script x named few fits.0 in
    ap (λ (ls : List (List ℕ)). map (read_line script) ls) (lines_line (line_words script x) rest all)
    ∙ (ap (λ (y : Line). y ∷ journal_of script rest) here
    ∙ ap (λ (ys : List Line). x ∷ ys) (read_back script xs named few fits.1))
