-- The told fault is the least one, and the literals are what they are.
use Rattle.std.proofs.Common.{◌≡◌, Bool, true, false, ℕ, ◌+◌, ◌<◌, List, [], ◌∷◌, Option, Some, None, inl, inr, refl, sym, ap, subst, ◌∙◌, arith, ◌⊎◌, Ok, Err, ◌≤◌, if◌then◌else◌, ◌==◌, ◌||◌, codes, map, not, nat_lt, length, Contains, Result, option_map, bytes_eq, lt-ltb, le-ltb}
use Rattle.std.specs.List.{list_all}
use Rattle.std.proofs.lemmas.Bool.{cases_lt, ne_eqb, or_cases, or_left, or_right, false≢true, or_parts}
use Rattle.std.proofs.lemmas.Slice.Eq.{bytes_eq-Decides}
use Rattle.lt_modes.specs.Script.{ScriptData}
use Rattle.lt_lists.proofs.Members.{contains_first, contains_later, contains_cases, none_in}
use Rattle.lt_spec.specs.declared.limits.TheConstants.{MAX_LINE}
use Rattle.lt_spec.specs.Script.{is_reserved}
use Rattle.lt_text.specs.Text.{words, lines}
use Rattle.lt_script.specs.declared.fault.Fault.{Fault}
use Rattle.lt_script.specs.declared.fault.Fault.TheVariants as faults
use Rattle.lt_script.specs.Fault.{number_of}
use Rattle.lt_script.specs.Forms.{FormData, form_of, form_in, CommandForm, asked_of}
use Rattle.lt_script.specs.Faults.{is_plain_byte, declared, line_form, first_true, fault_by_form, line_fault, form_fault, after_form}
use Rattle.lt_script.specs.Reading.{has_fault_by, IsLeastFault, LeastIsTold, LimitsAre, reserved, ReservedAre, NumbersAre, FormsAre, LaterFormsAre, is_skipped, line_step, unless, script_after, go_on, read_from, script_body, has_fault, IsFirstFault, LacksNodes, FirstIsTold}
use Rattle.lt_script.specs.declared.fault.ScriptFault.{ScriptFault}
use Rattle.lt_script.specs.Steps.{begins_comment, begins_declaration, is_plain_line, form_step, step_by_form, words_step}

abbrev fault_of : ℕ → Fault
fault_of n =
    if n == 1 then faults.Bytes else if n == 2 then faults.Length else if n == 3 then faults.Form else if n == 4 then faults.Number
    else if n == 5 then faults.Nodes else if n == 6 then faults.Name else if n == 7 then faults.Repeated else if n == 8 then faults.Unknown
    else if n == 9 then faults.Limit else if n == 10 then faults.Mode else faults.Node

known : (fault : Fault) → fault_of (number_of fault) ≡ fault
known faults.Bytes = refl
known faults.Length = refl
known faults.Form = refl
known faults.Number = refl
known faults.Nodes = refl
known faults.Name = refl
known faults.Repeated = refl
known faults.Unknown = refl
known faults.Limit = refl
known faults.Mode = refl
known faults.Node = refl

below_twelve : (fault : Fault) → number_of fault < 12
below_twelve faults.Bytes = omega arith
below_twelve faults.Length = omega arith
below_twelve faults.Form = omega arith
below_twelve faults.Number = omega arith
below_twelve faults.Nodes = omega arith
below_twelve faults.Name = omega arith
below_twelve faults.Repeated = omega arith
below_twelve faults.Unknown = omega arith
below_twelve faults.Limit = omega arith
below_twelve faults.Mode = omega arith
below_twelve faults.Node = omega arith

-- the faults have the numbers from n on, and no other fault has such a number
abbrev AreNumbered : ℕ → List Fault → Type 0
AreNumbered n [] = (fault : Fault) → number_of fault < n
AreNumbered n (fault ∷ rest) = (number_of fault ≡ n) × AreNumbered (n + 1) rest

abbrev with_test : (Fault → Bool) → Fault → Bool × Fault
with_test holds fault = (holds fault, fault)

least : (holds : Fault → Bool) (list : List Fault) (n : ℕ) → ((fault : Fault) → number_of fault < n → holds fault ≡ false) → AreNumbered n list
    → IsLeastFault holds (first_true (map (with_test holds) list))
least holds [] n none numbered = λ fault. none fault (numbered fault)
least holds (first ∷ rest) n none numbered =
    elim (holds first) as (λ t. holds first ≡ t → IsLeastFault holds (if t then Some first else first_true (map (with_test holds) rest))) [
      | true ↦ λ e. (e, λ fault below. none fault (omega (arith, below, numbered.0)))
      | false ↦ λ e. least holds rest (n + 1) (λ fault below. elim (cases_lt (number_of fault) n) [
        | inl before ↦ none fault before
        | inr here ↦
            let same : number_of fault ≡ number_of first = omega (arith, below, here, numbered.0) in
            subst (λ (f : Fault). holds f ≡ false) (sym (known first) ∙ ap fault_of (sym same) ∙ known fault) e
      ]) numbered.1
    ] refl

abbrev all_faults : List Fault
all_faults = faults.Bytes ∷ faults.Length ∷ faults.Form ∷ faults.Number ∷ faults.Nodes ∷ faults.Name ∷ faults.Repeated ∷ faults.Unknown ∷ faults.Limit ∷ faults.Mode ∷ faults.Node ∷ []

numbered_all : AreNumbered 1 all_faults
numbered_all = (refl, (refl, (refl, (refl, (refl, (refl, (refl, (refl, (refl, (refl, (refl, below_twelve)))))))))))

told_first : (v : ℕ) (st : Option ScriptData) (line : List ℕ) (form : Option FormData)
    → (if not (list_all is_plain_byte line) then Some faults.Bytes else if nat_lt MAX_LINE (length line) then Some faults.Length else fault_by_form v st form)
    ≡ first_true (map (with_test (has_fault_by v st line form)) all_faults)
told_first v st line None = refl
told_first v st line (Some form) = refl

none_below_one : (holds : Fault → Bool) (fault : Fault) → number_of fault < 1 → holds fault ≡ false
none_below_one holds faults.Bytes below = absurd (omega (arith, below))
none_below_one holds faults.Length below = absurd (omega (arith, below))
none_below_one holds faults.Form below = absurd (omega (arith, below))
none_below_one holds faults.Number below = absurd (omega (arith, below))
none_below_one holds faults.Nodes below = absurd (omega (arith, below))
none_below_one holds faults.Name below = absurd (omega (arith, below))
none_below_one holds faults.Repeated below = absurd (omega (arith, below))
none_below_one holds faults.Unknown below = absurd (omega (arith, below))
none_below_one holds faults.Limit below = absurd (omega (arith, below))
none_below_one holds faults.Mode below = absurd (omega (arith, below))
none_below_one holds faults.Node below = absurd (omega (arith, below))

pub least_is_told : LeastIsTold
least_is_told v st line =
    let holds = has_fault_by v st line (line_form v st line) in
    subst (IsLeastFault holds) (sym (told_first v st line (line_form v st line))) (least holds all_faults 1 (none_below_one holds) numbered_all)

pub limits_are : LimitsAre
limits_are = record { nodes = refl; nodes_of_first = refl; sets = refl; clients = refl; clients_of_first = refl; clients_of_second = refl; clients_of_node = refl; commands = refl; name = refl; line = refl }

pub numbers_are : NumbersAre
numbers_are = refl

pub forms_are : (v : ℕ) → FormsAre v
forms_are v = record {
  version = refl;
  nodes = λ n. refl;
  set = λ s. refl;
  set_with = λ s t. refl;
  client = λ c n. refl;
  lock = λ s m. refl;
  try = λ s m. refl;
  unlock = λ s m. refl;
  change = λ s g m. refl;
  drop = λ d s. refl;
}

pub later_forms_are : LaterFormsAre
later_forms_are = record {
  version = refl;
  withdraw = λ d s. refl;
  no_version = λ v below. rw (ne_eqb v 3 (λ same. omega (arith, below, same))) refl;
  no_withdraw = λ v d s below. rw (ne_eqb v 3 (λ same. omega (arith, below, same))) refl;
}

-- one of these words, tried one after the other
abbrev one_of : List (List ℕ) → List ℕ → Bool
one_of [] word = false
one_of (w ∷ ws) word = bytes_eq word w || one_of ws word

one_of-in : (ws : List (List ℕ)) (word : List ℕ) → one_of ws word ≡ true → Contains ws word
one_of-in [] word e = absurd (false≢true e)
one_of-in (w ∷ ws) word e = elim (or_cases (bytes_eq word w) (one_of ws word) e) [
  | inl here ↦ contains_first w word ws (sym ((bytes_eq-Decides word w).0 here))
  | inr later ↦ contains_later w word ws (one_of-in ws word later)
]

in-one_of : (ws : List (List ℕ)) (word : List ℕ) → Contains ws word → one_of ws word ≡ true
in-one_of [] word h = none_in word h
in-one_of (w ∷ ws) word h = elim (contains_cases w word ws h) [
  | inl same ↦ or_left (bytes_eq word w) (one_of ws word) ((bytes_eq-Decides word w).1 (sym same))
  | inr later ↦ or_right (bytes_eq word w) (one_of ws word) (in-one_of ws word later)
]

last_or : (a b c d e : Bool) → (a || b || c || d || e) ≡ (a || (b || (c || (d || (e || false)))))
last_or true b c d e = refl
last_or false true c d e = refl
last_or false false true d e = refl
last_or false false false true e = refl
last_or false false false false true = refl
last_or false false false false false = refl

pub reserved_are : ReservedAre
reserved_are word =
    let same : is_reserved word ≡ one_of reserved word =
    last_or (bytes_eq word (codes "nodes")) (bytes_eq word (codes "set")) (bytes_eq word (codes "client")) (bytes_eq word (codes "journal")) (bytes_eq word (codes "version")) in
    (λ e. one_of-in reserved word (sym same ∙ e), λ h. same ∙ in-one_of reserved word h)

-- The fault that is told of a text is the least one of its first line with a fault.

-- a line with a fault isn't skipped
record Told (v : ℕ) (st : Option ScriptData) (line : List ℕ) (fault : Fault) : Type 0 where
  judged : is_skipped line ≡ false
  first : line_fault v st line ≡ Some fault

by_fault : (o : Option Fault) (next : Option ScriptData) (fault : Fault) → unless o next ≡ Err fault → o ≡ Some fault
by_fault (Some first) next fault e = cc
by_fault None next fault e = absurd (cc)

told_of : (v : ℕ) (st : Option ScriptData) (line : List ℕ) (fault : Fault) → line_step v st line ≡ Err fault → Told v st line fault
unfolding line_step
told_of v st line fault e =
    let next = script_after v st (line_form v st line) in
    elim (is_skipped line) as (λ t. is_skipped line ≡ t → (if t then Ok st else unless (line_fault v st line) next) ≡ Err fault → Told v st line fault) [
      | true ↦ λ skipped e. absurd (cc)
      | false ↦ λ judged e. record { judged = judged; first = by_fault (line_fault v st line) next fault e }
    ] refl e

first_here : (v : ℕ) (line : List ℕ) (rest : List (List ℕ)) (k : ℕ) (st : Option ScriptData) (fault : Fault) → line_step v st line ≡ Err fault
    → IsFirstFault v k st (line ∷ rest) (record { line = k; fault = fault })
first_here v line rest k st fault step =
    let told = told_of v st line fault step in
    record {
      before = [];
      line = line;
      after = rest;
      so_far = st;
      stands = refl;
      counted = omega arith;
      read = refl;
      judged = told.judged;
      least = subst (IsLeastFault (has_fault v st line)) told.first (least_is_told v st line);
    }

first_later : (v : ℕ) (line : List ℕ) (rest : List (List ℕ)) (k : ℕ) (st next : Option ScriptData) (told : ScriptFault) → line_step v st line ≡ Ok next
    → IsFirstFault v (k + 1) next rest told ⊎ LacksNodes v (k + 1) next rest told → IsFirstFault v k st (line ∷ rest) told ⊎ LacksNodes v k st (line ∷ rest) told
first_later v line rest k st next told step h = elim h [
  | inl first ↦ inl (record {
    before = line ∷ first.before;
    line = first.line;
    after = first.after;
    so_far = first.so_far;
    stands = ap (λ (ls : List (List ℕ)). line ∷ ls) first.stands;
    counted = omega (arith, first.counted);
    read = (next, step, first.read);
    judged = first.judged;
    least = first.least;
  })
  | inr none ↦ inr (record { read = (next, step, none.read); counted = omega (arith, none.counted); fault = none.fault })
]

abbrev told_error : ScriptFault → Result ScriptData ScriptFault
told_error fault = Err fault

same_error : (a b : ScriptFault) → told_error a ≡ Err b → a ≡ b
same_error a b e = cc

first_from : (v : ℕ) (ls : List (List ℕ)) (k : ℕ) (st : Option ScriptData) (told : ScriptFault) → read_from v ls k st ≡ Err told → IsFirstFault v k st ls told ⊎ LacksNodes v k st ls told
unfolding read_from
first_from v [] k (Some s) told e = absurd (cc)
first_from v [] k None told e =
    let same : record { line = k; fault = faults.Nodes } ≡ told = same_error (record { line = k; fault = faults.Nodes }) told e in
    inr (record {
      read = refl;
      counted = omega (arith, ap (λ (f : ScriptFault). f.line) same);
      fault = sym (ap (λ (f : ScriptFault). f.fault) same);
    })
first_from v (line ∷ rest) k st told e =
    elim (line_step v st line) as (λ r. line_step v st line ≡ r → go_on k (read_from v rest (k + 1)) r ≡ Err told → IsFirstFault v k st (line ∷ rest) told ⊎ LacksNodes v k st (line ∷ rest) told) [
      | Ok next ↦ λ step e. first_later v line rest k st next told step (first_from v rest (k + 1) next told e)
      | Err fault ↦ λ step e. inl (subst (IsFirstFault v k st (line ∷ rest)) (same_error (record { line = k; fault = fault }) told e) (first_here v line rest k st fault step))
    ] refl e

pub first_is_told : FirstIsTold
first_is_told bytes told e =
    let body = script_body (lines bytes) 1 in
    first_from body.version body.lines body.first None told e

-- What reading a line comes to, by its words.

pub no_word_step : (v : ℕ) (st : Option ScriptData) (line : List ℕ) → words line ≡ [] → line_step v st line ≡ Ok st
unfolding line_step
no_word_step v st line e = rw e refl

pub comment_step : (v : ℕ) (st : Option ScriptData) (line word : List ℕ) (rest : List (List ℕ)) → words line ≡ word ∷ rest → begins_comment word ≡ true → line_step v st line ≡ Ok st
unfolding line_step
comment_step v st line word rest e comment = rw (e, comment) refl

pub bytes_step : (v : ℕ) (st : Option ScriptData) (line word : List ℕ) (rest : List (List ℕ)) → words line ≡ word ∷ rest → begins_comment word ≡ false → is_plain_line line ≡ false
    → line_step v st line ≡ Err faults.Bytes
unfolding line_step
bytes_step v st line word rest e other h = rw (h, e, other) refl

pub length_step : (v : ℕ) (st : Option ScriptData) (line word : List ℕ) (rest : List (List ℕ)) → words line ≡ word ∷ rest → begins_comment word ≡ false → is_plain_line line ≡ true → MAX_LINE < length line
    → line_step v st line ≡ Err faults.Length
unfolding line_step
length_step v st line word rest e other plain long = rw (plain, lt-ltb MAX_LINE (length line) long, e, other) refl

by_form : (v : ℕ) (st : Option ScriptData) (o : Option FormData) → unless (fault_by_form v st o) (script_after v st o) ≡ step_by_form v st o
by_form v st None = refl
by_form v st (Some form) = refl

pub line_words_step : (v : ℕ) (st : Option ScriptData) (line word : List ℕ) (rest : List (List ℕ)) → words line ≡ word ∷ rest → begins_comment word ≡ false → is_plain_line line ≡ true → length line ≤ MAX_LINE
    → line_step v st line ≡ words_step v st (word ∷ rest)
unfolding line_step
line_words_step v st line word rest e other plain short = rw (plain, le-ltb MAX_LINE (length line) short, e, other) (by_form v st (form_in (declared v st).version (word ∷ rest)))

-- a line that declares nothing is one of a command
pub command_form : (word : List ℕ) (rest : List (List ℕ)) → begins_declaration word ≡ false → form_of (word ∷ rest) ≡ option_map (CommandForm word) (asked_of rest)
command_form word rest e =
    let three = or_parts (bytes_eq word (codes "version") || bytes_eq word (codes "nodes") || bytes_eq word (codes "set")) (bytes_eq word (codes "client")) e in
    let two = or_parts (bytes_eq word (codes "version") || bytes_eq word (codes "nodes")) (bytes_eq word (codes "set")) three.0 in
    let one = or_parts (bytes_eq word (codes "version")) (bytes_eq word (codes "nodes")) two.0 in
    rw (one.0, one.1, two.1, three.1) refl

-- after the line `nodes` the version that is given doesn't matter
of_script : (v w : ℕ) (s : ScriptData) (o : Option FormData) → step_by_form v (Some s) o ≡ step_by_form w (Some s) o
of_script v w s None = refl
of_script v w s (Some form) = refl

pub later_line_step : (v : ℕ) (st : Option ScriptData) (s : ScriptData) (line word : List ℕ) (rest : List (List ℕ)) → st ≡ Some s → words line ≡ word ∷ rest → begins_comment word ≡ false → is_plain_line line ≡ true → length line ≤ MAX_LINE
    → line_step v st line ≡ words_step s.version (Some s) (word ∷ rest)
later_line_step v st s line word rest is e other plain short =
    line_words_step v st line word rest e other plain short
    ∙ ap (λ (o : Option ScriptData). words_step v o (word ∷ rest)) is
    ∙ of_script v s.version s (form_in s.version (word ∷ rest))

-- before the line `nodes` it decides which forms a line may have
pub first_step : (v : ℕ) (st : Option ScriptData) (ws : List (List ℕ)) (form : Option FormData) → st ≡ None → form_in v ws ≡ form → words_step v st ws ≡ step_by_form v st form
first_step v st ws form none e = ap (λ (so_far : Option ScriptData). step_by_form v st (form_in (declared v so_far).version ws)) none ∙ ap (step_by_form v st) e

-- a form with a fault is told by it
pub told_step : (v : ℕ) (st : Option ScriptData) (form : FormData) (fault : Fault) → form_fault v st form ≡ Some fault → form_step v st form ≡ Err fault
told_step v st form fault e = rw e refl

-- a form without a fault leads to the script after it
pub clean_step : (v : ℕ) (st : Option ScriptData) (form : FormData) (s : ScriptData) → form_fault v st form ≡ None → s ≡ after_form (declared v st) form → form_step v st form ≡ Ok (Some s)
clean_step v st form s clean is = rw (clean, is) refl
