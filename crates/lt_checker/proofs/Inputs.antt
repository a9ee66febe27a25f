-- What is told of the bytes of an input is told of its source.
use Rattle.std.proofs.Common.{◌≡◌, ◌∙◌, ℕ, ◌+◌, ◌<◌, ◌≤◌, List, [], ◌∷◌, ◌++◌, Option, Some, None, IfSome, Result, Ok, Err, IfOk, IfErr, OnOk, length, take, drop, refl, sym, ap, subst, inl, inr, arith, length-append, append-nil, ◌⊎◌, ◌≢◌}
use Rattle.std.specs.Io.KnownBytes.{Consumes, IsAtEnd}
use Rattle.lt_io.specs.Streams.{Rose, SourceState, ReadsOut, FailsBy, IsReadWhole}
use Rattle.lt_io.specs.declared.whole.ReadFailure.{ReadFailure}
use Rattle.lt_io.specs.declared.whole.ReadFailure.TheVariants.{Memory, Failed, TooLong as Long}
use Rattle.lt_io.proofs.Pieces.{read_out, fails_later, some_given}
use Rattle.lt_modes.specs.Script.{ScriptData}
use Rattle.lt_spec.specs.Script.{IsScript, IsShort}
use Rattle.lt_text.specs.Text.{cut_at, lines, words}
use Rattle.lt_script.specs.Reading.{read_of, script_body, read_from}
use Rattle.lt_journal.specs.declared.splitting.Parts.{Parts}
use Rattle.lt_journal.specs.Split.{input_parts}
use Rattle.lt_law_journals.specs.Checking.{IsSettled, checked}
use Rattle.lt_law_journals.proofs.Firsts.{first_bad}
use Rattle.lt_world.specs.Fields.{WorldData}
use Rattle.lt_script.specs.declared.fault.Fault.TheVariants as faults
use Rattle.lt_script.specs.declared.fault.ScriptFault.{ScriptFault}
use Rattle.lt_checker.specs.declared.limits.TheConstants.{MAX_JOURNAL}
use Rattle.lt_checker.specs.declared.error.InputError.{InputError}
use Rattle.lt_checker.specs.declared.error.InputError.TheVariants.{ReadFault, TooLong, NoMemory, Refused, BadJournal}
use Rattle.lt_checker.specs.Input.{HasFaultBefore, IsBad, IsEndedRun, FailsInput, MayWantMemory, WantsMemory, error_of}
use Rattle.lt_checker.specs.Heads.{AnswersInput, IsHeadCut, IsReadTo, IsRest, FailsRest, FailsBytes}
use Rattle.lt_checker.specs.declared.input.EndedRun.{EndedRun}
use Rattle.lt_checker.proofs.Wanting.{ended_good}

-- the first bad line of the journal in an input is that of the input
pub bad_input : (script : ScriptData) (bytes : List ℕ) (before k : ℕ) → IsScript script → IsShort script → read_of (take (input_parts bytes).script bytes) ≡ Ok script
    → before ≡ (input_parts bytes).lines → checked script (lines (drop (input_parts bytes).journal bytes)) ≡ Err k → IsBad (Some bytes) (before + k)
bad_input script bytes before k is_script short read count e =
    (script, is_script, read, (k, ap (λ (n : ℕ). n + k) count, first_bad script (lines (drop (input_parts bytes).journal bytes)) k is_script short e))

-- the first bytes of an input and those that come after them are all of it
pub read_all : (first rest : List ℕ) (room : Option ℕ) (x y z : SourceState) → IsReadTo first room x y → IsRest room rest y z → ReadsOut (first ++ rest) x z
read_all first rest None x y z head (none, kept) =
    let bytes : first ≡ first ++ rest = sym (ap (λ (t : List ℕ). first ++ t) none ∙ append-nil first) in
    subst (λ (s : SourceState). ReadsOut (first ++ rest) x s) (sym kept) (subst (λ (b : List ℕ). ReadsOut b x y) bytes head)
read_all first rest (Some room) x y z head tail = read_out first rest x y z head.1 tail.1

all_few : (first rest : List ℕ) (room : Option ℕ) (x y z : SourceState) → length first ≤ MAX_JOURNAL → IsReadTo first room x y → IsRest room rest y z
    → length (first ++ rest) ≤ MAX_JOURNAL
all_few first rest None x y z few head (none, kept) = omega (arith, few, length-append first rest, ap length none)
all_few first rest (Some room) x y z few head tail = omega (arith, head.0, tail.0, length-append first rest)

pub read_whole : (first rest : List ℕ) (room : Option ℕ) (x y z : SourceState) → length first ≤ MAX_JOURNAL → IsReadTo first room x y → IsRest room rest y z
    → IsReadWhole MAX_JOURNAL x z
read_whole first rest room x y z few head tail =
    let out = read_all first rest room x y z head tail in
    record {
      ended = out.ended;
      at_end = out.at_end;
      few = omega (arith, out.no_more, all_few first rest room x y z few head tail);
      without_fault = out.no_fault;
    }

-- the bytes that were left are not known, or these
abbrev pub AreLeft : Option (List ℕ) → List ℕ → Type 0
AreLeft left bytes = (left ≡ None) ⊎ (left ≡ Some bytes)

pub are_left : (left after : Option (List ℕ)) (bytes : List ℕ) → Consumes left after bytes → IsAtEnd after → AreLeft left bytes
are_left None after bytes taken ended = inl refl
are_left (Some all) None bytes taken ended = absurd taken
are_left (Some all) (Some rest) bytes taken ended = inr (ap Some (taken ∙ (ap (λ (t : List ℕ). bytes ++ t) ended ∙ append-nil bytes)))

pub told_of : (left : Option (List ℕ)) (bytes : List ℕ) (script : ScriptData) (world : WorldData) → AreLeft left bytes → IsEndedRun (Some bytes) script world
    → IsEndedRun left script world
told_of left bytes script world (inl none) ended =
    subst (λ (l : Option (List ℕ)). IsEndedRun l script world) (sym none) (record { denoted = tt; accepted = tt; finished = ended.finished; script_is = ended.script_is })
told_of left bytes script world (inr known) ended = subst (λ (l : Option (List ℕ)). IsEndedRun l script world) (sym known) ended

fault_of : (left : Option (List ℕ)) (bytes : List ℕ) (fault : ScriptFault) → AreLeft left bytes → HasFaultBefore (Some bytes) fault → HasFaultBefore left fault
fault_of left bytes fault (inl none) h = subst (λ (l : Option (List ℕ)). HasFaultBefore l fault) (sym none) tt
fault_of left bytes fault (inr known) h = subst (λ (l : Option (List ℕ)). HasFaultBefore l fault) (sym known) h

bad_of : (left : Option (List ℕ)) (bytes : List ℕ) (line : ℕ) → AreLeft left bytes → IsBad (Some bytes) line → IsBad left line
bad_of left bytes line (inl none) h = subst (λ (l : Option (List ℕ)). IsBad l line) (sym none) (h.0, h.1, tt, tt)
bad_of left bytes line (inr known) h = subst (λ (l : Option (List ℕ)). IsBad l line) (sym known) h

-- Where memory may be wanting.

wants_of : (left : Option (List ℕ)) (bytes : List ℕ) → AreLeft left bytes → MayWantMemory bytes → IfSome left MayWantMemory
wants_of left bytes (inl none) h = subst (λ (l : Option (List ℕ)). IfSome l MayWantMemory) (sym none) tt
wants_of left bytes (inr known) h = subst (λ (l : Option (List ℕ)). IfSome l MayWantMemory) (sym known) h

-- the first bytes came, and the source gives none back
came_first : (first : List ℕ) (room : Option ℕ) (x y z : SourceState) → 0 < length first → IsReadTo first room x y → y.given ≤ z.given → Rose x.given z.given
came_first first None x y z some head later = omega (arith, some, head.counted.count, later)
came_first first (Some room) x y z some head later = omega (arith, some_given first x y some head.1, later)

rest_later : (rest : List ℕ) (room : Option ℕ) (y z : SourceState) → IsRest room rest y z → y.given ≤ z.given
rest_later rest None y z (none, kept) = omega (arith, ap (λ (s : SourceState). s.given) kept)
rest_later rest (Some room) y z tail = tail.1.counted.later

-- once all was read
pub wants_whole : (first rest : List ℕ) (room : Option ℕ) (x y z : SourceState) → 0 < length first → IsReadTo first room x y → IsRest room rest y z
    → MayWantMemory (first ++ rest) → WantsMemory x z
wants_whole first rest room x y z some head tail h =
    let out = read_all first rest room x y z head tail in
    record {
      came = came_first first room x y z some head (rest_later rest room y z tail);
      good = inr (wants_of x.left (first ++ rest) (are_left x.left z.left (first ++ rest) out.consumed out.at_end) h);
    }

-- of an input that was accepted
pub ended_wants : (first rest : List ℕ) (room : Option ℕ) (x y z : SourceState) (script : ScriptData) (world : WorldData) → 0 < length first → IsReadTo first room x y
    → IsRest room rest y z → IsScript script → IsShort script → IsEndedRun (Some (first ++ rest)) script world → WantsMemory x z
ended_wants first rest room x y z script world some head tail is_script short ended =
    wants_whole first rest room x y z some head tail (inr (ended_good (first ++ rest) script world is_script short ended))

-- why the bytes say nothing is why the input does
pub fails_whole : (first rest : List ℕ) (room : Option ℕ) (error : InputError) (x y z : SourceState) → 0 < length first → length first ≤ MAX_JOURNAL
    → IsReadTo first room x y → IsRest room rest y z → FailsBytes (first ++ rest) error → FailsInput error x z
fails_whole first rest room error x y z some few head tail fails = by_error error fails
  where
    out : ReadsOut (first ++ rest) x z
    out = read_all first rest room x y z head tail

    left : AreLeft x.left (first ++ rest)
    left = are_left x.left z.left (first ++ rest) out.consumed out.at_end

    whole : IsReadWhole MAX_JOURNAL x z
    whole = read_whole first rest room x y z few head tail

    by_error : (error : InputError) → FailsBytes (first ++ rest) error → FailsInput error x z
    by_error NoMemory h = (whole.few, whole.without_fault, wants_whole first rest room x y z some head tail h)
    by_error (Refused fault) h = (fault_of x.left (first ++ rest) fault left h, whole)
    by_error (BadJournal line) h = (bad_of x.left (first ++ rest) line left h, whole)
    by_error ReadFault h = absurd h
    by_error TooLong h = absurd h

-- why a source could not be read is why the input says nothing
pub fails_read : (why : ReadFailure) (x z : SourceState) → (why ≡ Memory → Rose x.given z.given) → FailsBy why MAX_JOURNAL x z → FailsInput (error_of why) x z
fails_read Memory x z came fails =
    let not_failed : Memory ≢ Failed = λ e. cc in
    let not_long : Memory ≢ Long = λ e. cc in
    (fails.no_more not_long, fails.no_other_fault not_failed, record { came = came refl; good = inl fails.no_end })
fails_read Failed x z came fails =
    let not_long : Failed ≢ Long = λ e. cc in
    (fails.failed refl, fails.no_more not_long)
fails_read Long x z came fails =
    let not_failed : Long ≢ Failed = λ e. cc in
    (fails.too_long refl, fails.no_other_fault not_failed, fails.too_many_left refl)

pub fails_rest : (why : ReadFailure) (first : List ℕ) (room : Option ℕ) (x y z : SourceState) → 0 < length first → length first ≤ MAX_JOURNAL → IsHeadCut first room
    → IsReadTo first room x y → FailsRest room why y z → FailsInput (error_of why) x z
fails_rest why first None x y z some few cut head (memory, kept) =
    let wants : WantsMemory x y = record {
      came = came_first first None x y y some head (omega arith);
      good = inr (wants_of x.left first (are_left x.left y.left first head.consumed head.at_end) (inl cut));
    } in
    subst (λ (w : ReadFailure). FailsInput (error_of w) x z) (sym memory)
    (subst (λ (s : SourceState). FailsInput NoMemory x s) (sym kept) (omega (arith, head.no_more, few), head.no_fault, wants))
fails_rest why first (Some room) x y z some few cut head fails =
    fails_read why x z (λ _. came_first first (Some room) x y z some head fails.none_uncounted) (fails_later why first room MAX_JOURNAL x y z head.0 head.1 fails)

-- An input of no byte.

-- whatever came after no byte would move the places where an input is cut
unsettled : IsSettled [] → ⊥
unfolding cut_at lines words
unsettled cut =
    let moved : 1 ≡ 0 = ap (λ (p : Parts). p.script) (cut (120 ∷ [])) in
    absurd (omega (arith, moved))

no_script : HasFaultBefore (Some []) (record { line = 1; fault = faults.Nodes })
unfolding cut_at lines script_body read_from
no_script = refl

pub fails_empty : (first : List ℕ) (room : Option ℕ) (x y : SourceState) → length first ≡ 0 → IsHeadCut first room → IsReadTo first room x y
    → FailsInput (Refused (record { line = 1; fault = faults.Nodes })) x y
fails_empty (byte ∷ first) room x y none cut head = absurd (omega (arith, none))
fails_empty [] (Some room) x y none cut head = absurd (unsettled cut)
fails_empty [] None x y none cut head =
    let fault : ScriptFault = record { line = 1; fault = faults.Nodes } in
    (fault_of x.left [] fault (are_left x.left y.left [] head.consumed head.at_end) no_script, read_whole [] [] None x y y (omega arith) head (refl, refl))

-- What an answer to all bytes is of the source.

pub told_ok : (first rest : List ℕ) (room : Option ℕ) (x y z : SourceState) (answer : Result EndedRun InputError) → IsReadTo first room x y → IsRest room rest y z
    → AnswersInput (first ++ rest) answer → IfOk answer (λ ended. IsEndedRun x.left ended.script ended.world)
told_ok first rest room x y z (Err error) head tail h = tt
told_ok first rest room x y z (Ok ended) head tail h =
    let out = read_all first rest room x y z head tail in
    told_of x.left (first ++ rest) ended.script ended.world (are_left x.left z.left (first ++ rest) out.consumed out.at_end) h

pub whole_ok : (first rest : List ℕ) (room : Option ℕ) (x y z : SourceState) (answer : Result EndedRun InputError) → length first ≤ MAX_JOURNAL → IsReadTo first room x y
    → IsRest room rest y z → OnOk answer (IsReadWhole MAX_JOURNAL x z)
whole_ok first rest room x y z (Err error) few head tail = tt
whole_ok first rest room x y z (Ok ended) few head tail = read_whole first rest room x y z few head tail

pub wants_ok : (first rest : List ℕ) (room : Option ℕ) (x y z : SourceState) (answer : Result EndedRun InputError) → 0 < length first → IsReadTo first room x y
    → IsRest room rest y z → IfOk answer (λ ended. IsScript ended.script) → IfOk answer (λ ended. IsShort ended.script) → AnswersInput (first ++ rest) answer → OnOk answer (WantsMemory x z)
wants_ok first rest room x y z (Err error) some head tail kept short h = tt
wants_ok first rest room x y z (Ok ended) some head tail kept short h = ended_wants first rest room x y z ended.script ended.world some head tail kept short h

pub fails_err : (first rest : List ℕ) (room : Option ℕ) (x y z : SourceState) (answer : Result EndedRun InputError) → 0 < length first → length first ≤ MAX_JOURNAL
    → IsReadTo first room x y → IsRest room rest y z → AnswersInput (first ++ rest) answer → IfErr answer (λ error. FailsInput error x z)
fails_err first rest room x y z (Ok ended) some few head tail h = tt
fails_err first rest room x y z (Err error) some few head tail h = fails_whole first rest room error x y z some few head tail h
