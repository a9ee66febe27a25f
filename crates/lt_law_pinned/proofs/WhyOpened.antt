-- Each field of what is said of an answer to the word `why`.
use Rattle.std.proofs.Common.{◌≡◌, ◌⊎◌, ◌++◌, ◌∷◌, ℕ, List, [], Ok, Err, Option, Some, None, false, IsTrue, inl, inr, codes, is_some, length, refl, sym, ap, subst, ◌∙◌, take}
use Rattle.std.proofs.lemmas.Bool.{false≢true}
use Rattle.std.specs.Io.KnownBytes.{Appends}
use Rattle.lt_io.specs.Streams.{AppendsPart, SourceState}
use Rattle.lt_modes.specs.Modes.{conflicts}
use Rattle.lt_modes.specs.Script.{ScriptData}
use Rattle.lt_spec.specs.Holdings.{waits_for}
use Rattle.lt_spec.specs.Promised.{WaitInRing}
use Rattle.lt_spec.specs.Rings.{Graph}
use Rattle.lt_spec.specs.Script.{IsScript}
use Rattle.lt_spec.specs.World.{Logged, world_after}
use Rattle.lt_call.specs.Calls.{Serves}
use Rattle.lt_call.specs.Outcomes.{IsRefused}
use Rattle.lt_call.specs.declared.outcome.Outcome.{Outcome}
use Rattle.lt_call.specs.declared.outcome.Outcome.TheVariants.{Done, Refused, TooLong, ReadFault, WriteFault, NoMemory, BadJournal}
use Rattle.lt_script.specs.Reading.{read_of}
use Rattle.lt_journal.specs.Split.{input_parts}
use Rattle.lt_checker.specs.Input.{WantsMemory}
use Rattle.lt_waits.specs.declared.answer.Answer.{Answer}
use Rattle.lt_waits.specs.declared.answer.Answer.TheVariants as answers
use Rattle.lt_waits.specs.Answers.{outcome_of}
use Rattle.lt_waits.specs.Serves.{IsWhyOf, IsUnfit}
use Rattle.lt_waits.specs.Reasons.{waits_by_lock}
use Rattle.lt_waits.specs.Shortest.{IsRingNamed}
use Rattle.lt_waits.specs.Why.{NamesRing, why_text}
use Rattle.lt_law_pinned.specs.PlainCalls.{SinkTells, PlainCall, EndsPlainly, ReadsPlain, PlainlyTold}
use Rattle.lt_law_pinned.specs.Reports.{no_nodes_fault, writers_apart, both_change, void_script, void_moves, wrong_grant}
use Rattle.lt_law_pinned.specs.WhyCalls.{WhyWordsAre, IsWhyCall, WhyTold, writer_why, first_why, second_why, behind_why, four_script, four_wait}
use Rattle.lt_law_pinned.proofs.ReportInputs.{InputIs, apart_script, writer_moves, change_script, change_moves, nothing_read, apart_is, change_is, wrong_is}
use Rattle.lt_law_pinned.proofs.ReportScripts.{apart_is_script, change_is_script}
use Rattle.lt_law_pinned.proofs.TwoWritersSay.{same_script, same_fault, same_run, same_line, run_or_line}
use Rattle.lt_law_pinned.proofs.ReportsOpened.{run_so, bad_so, none_refused}
use Rattle.lt_law_pinned.proofs.PlainCallsOpened.{plainly_told, part_so, appended}
use Rattle.lt_law_pinned.proofs.WhyRings.{both_below, ring_of_two, none_of_two}

pub why_words_are : WhyWordsAre
why_words_are = record { why = refl; nothing = refl; other = refl; twice = refl }

-- what is said of a run, where this ring is named
abbrev Said : ScriptData → List Logged → List ℕ → Type 0
Said script run text = (ring : Option (List ℕ)) × NamesRing script run ring × (text ≡ why_text script run ring)

said_so : (bytes : List ℕ) (script : ScriptData) (run : List Logged) (text : List ℕ)
    → IsScript script → InputIs bytes script (Ok run) → IsWhyOf (Some bytes) text
    → Said script run text
said_so bytes script run text is_script is h =
    let same = same_script h.script script (read_of (take (input_parts bytes).script bytes)) h.denoted is.denoted in
    let told = run_so bytes script (Ok run) h.script h.run is_script is h.denoted h.accepted h.finished in
    subst (λ (r : List Logged). Said script r text) (same_run h.run run (Ok h.run) refl (sym told))
    (subst (λ (s : ScriptData). Said s h.run text) same (h.ring, h.names, h.told))

done_of : (c : PlainCall Answer) (bytes : List ℕ) → ReadsPlain IsWhyCall outcome_of bytes c → c.answer ≡ answers.Done
    → (text : List ℕ) × IsWhyOf (Some bytes) text × Appends c.sink.held c.sink_after.held text
done_of c bytes reads e =
    let done = reads.serves.1.done (ap outcome_of e) in
    (done.0, subst (λ (left : Option (List ℕ)). IsWhyOf left done.0) reads.input done.1, done.2)

-- the second writer waits for the first, who waits for nobody

abbrev apart_graph : Graph
apart_graph = waits_for apart_script (world_after apart_script writer_moves)

first_not_for_itself : apart_graph 0 0 ≡ false
unfolding conflicts
first_not_for_itself = refl

second_not_for_itself : apart_graph 1 1 ≡ false
unfolding conflicts
second_not_for_itself = refl

first_waits_not : apart_graph 0 1 ≡ false
unfolding conflicts
first_waits_not = refl

no_ring_apart : WaitInRing apart_script (world_after apart_script writer_moves) → ⊥
no_ring_apart wait =
    none_of_two apart_graph first_not_for_itself second_not_for_itself first_waits_not wait.0 wait.1 wait.2

apart_why : why_text apart_script writer_moves None ≡ writer_why
unfolding conflicts
apart_why = refl

apart_said : (text : List ℕ) (ring : Option (List ℕ)) → NamesRing apart_script writer_moves ring
    → text ≡ why_text apart_script writer_moves ring
    → text ≡ writer_why
apart_said text None names told = told ∙ apart_why
apart_said text (Some clients) names told = absurd (no_ring_apart (names.some.0 refl))

apart_so : (text : List ℕ) → IsWhyOf (Some writers_apart) text → text ≡ writer_why
apart_so text h =
    let said = said_so writers_apart apart_script writer_moves text apart_is_script apart_is h in
    apart_said text said.0 said.1 said.2

-- the two that change to write wait for each other

abbrev change_graph : Graph
change_graph = waits_for change_script (world_after change_script change_moves)

changer_not_for_itself : change_graph 0 0 ≡ false
unfolding conflicts
changer_not_for_itself = refl

other_not_for_itself : change_graph 1 1 ≡ false
unfolding conflicts
other_not_for_itself = refl

both_wait : IsTrue (change_graph 0 1) × IsTrue (change_graph 1 0)
unfolding conflicts
both_wait = (refl, refl)

changers_wait : WaitInRing change_script (world_after change_script change_moves)
changers_wait = (0 ∷ 1 ∷ [], both_below, (both_wait.0, (both_wait.1, tt)))

first_said : why_text change_script change_moves (Some (0 ∷ 1 ∷ [])) ≡ first_why
unfolding conflicts
first_said = refl

second_said : why_text change_script change_moves (Some (1 ∷ 0 ∷ [])) ≡ second_why
unfolding conflicts
second_said = refl

two_named : (clients : List ℕ) → NamesRing change_script change_moves (Some clients)
    → (clients ≡ 0 ∷ 1 ∷ []) ⊎ (clients ≡ 1 ∷ 0 ∷ [])
two_named clients names =
    ring_of_two change_graph changer_not_for_itself other_not_for_itself clients names.named.ring_is

change_said : (text : List ℕ) (ring : Option (List ℕ)) → NamesRing change_script change_moves ring
    → text ≡ why_text change_script change_moves ring
    → (text ≡ first_why) ⊎ (text ≡ second_why)
change_said text None names told = absurd (false≢true (names.some.1 changers_wait))
change_said text (Some clients) names told = elim (two_named clients names) [
  | inl first ↦ inl (told ∙ ap said first ∙ first_said)
  | inr second ↦ inr (told ∙ ap said second ∙ second_said)
]
  where
    said : List ℕ → List ℕ
    said ring = why_text change_script change_moves (Some ring)

change_so : (text : List ℕ) → IsWhyOf (Some both_change) text → (text ≡ first_why) ⊎ (text ≡ second_why)
change_so text h =
    let said = said_so both_change change_script change_moves text change_is_script change_is h in
    change_said text said.0 said.1 said.2

behind_said : why_text four_script four_wait (Some (0 ∷ 1 ∷ [])) ≡ behind_why
unfolding conflicts
behind_said = refl

void_said : why_text void_script void_moves None ≡ codes "no ring\nc wants s read, behind an ask that b gave up\n"
unfolding conflicts
void_said = refl

-- why an input is refused
unfit_in : (c : PlainCall Answer) (bytes : List ℕ) (answer : Answer)
    → ReadsPlain IsWhyCall outcome_of bytes c → c.answer ≡ answer → IsRefused (outcome_of answer) → IsUnfit (Some bytes) answer
unfit_in c bytes answer reads e is =
    subst (λ (a : Answer). IsUnfit (Some bytes) a) e
    (subst (λ (left : Option (List ℕ)). IsUnfit left c.answer) reads.input
    (reads.serves.1.refused (subst (λ (a : Answer). IsRefused (outcome_of a)) (sym e) is)))

none_named : (script : ScriptData) (run : List Logged) (ring : Option (List ℕ)) → NamesRing script run ring
    → ring ≡ None → WaitInRing script (world_after script run) → ⊥
none_named script run ring names is wait =
    false≢true (sym (ap (λ (r : Option (List ℕ)). is_some r) is) ∙ names.some.1 wait)

some_named : (script : ScriptData) (run : List Logged) (ring : Option (List ℕ)) → NamesRing script run ring
    → (clients : List ℕ) → ring ≡ Some clients → IsRingNamed (length script.clients) (waits_by_lock script run) (waits_for script (world_after script run)) clients
some_named script run ring names clients is = (subst (λ (r : Option (List ℕ)). NamesRing script run r) is names).named

pub why_told : WhyTold
why_told = record {
  no_ring = λ c old new h held.
      let done = done_of c writers_apart h.0 h.1 in
      appended c.sink.held c.sink_after.held old new done.0 held.0 held.1 done.2
      ∙ ap (λ (t : List ℕ). old ++ t) (apart_so done.0 done.1);
  ring = λ c old new h held.
      let done = done_of c both_change h.0 h.1 in
      let all = appended c.sink.held c.sink_after.held old new done.0 held.0 held.1 done.2 in
      elim (change_so done.0 done.1) [
        | inl first ↦ inl (all ∙ ap (λ (t : List ℕ). old ++ t) first)
        | inr second ↦ inr (all ∙ ap (λ (t : List ℕ). old ++ t) second)
      ];
  behind = behind_said;
  void = void_said;
  part = λ c old new h held.
      let fault = h.0.serves.1.write_fault (ap outcome_of h.1) in
      let why = subst (λ (left : Option (List ℕ)). IsWhyOf left fault.0) h.0.input fault.1 in
      part_so c.sink.held c.sink_after.held old new writer_why held.0 held.1
      (subst (λ (t : List ℕ). AppendsPart c.sink.held c.sink_after.held t) (apart_so fault.0 why) fault.2);
  bad = λ c line h.
      let unfit = unfit_in c wrong_grant (answers.BadJournal line) h.0 h.1 tt in
      same_line line 9 (Err line) refl (sym (bad_so wrong_grant apart_script (Err 9) line wrong_is unfit));
  never_bad = λ c line h.
      none_refused (answers.BadJournal line) tt (unfit_in c writers_apart (answers.BadJournal line) h.0 h.1 tt);
  never_done = λ c h.
      let why = (done_of c wrong_grant h.0 h.1).1 in
      let told =
      run_so wrong_grant apart_script (Err 9) why.script why.run apart_is_script wrong_is why.denoted why.accepted why.finished in
      run_or_line why.run 9 (Ok why.run) refl (sym told);
  fault = λ c fault h.
      same_fault fault no_nodes_fault (read_of (take (input_parts []).script []))
      (unfit_in c [] (answers.Refused fault) h.0 h.1 tt) nothing_read;
  never_refused = λ c fault h.
      none_refused (answers.Refused fault) tt (unfit_in c writers_apart (answers.Refused fault) h.0 h.1 tt);
  unknown = λ c old new serves e held.
      let done = serves.1.done (ap outcome_of e) in
      let w = done.1 in (
        w.script,
        w.run,
        record {
          is_run = w.finished.is_run;
          at_rest = w.finished.at_rest;
          ring = w.ring;
          none = none_named w.script w.run w.ring w.names;
          some = λ clients is. some_named w.script w.run w.ring w.names clients is;
          told = appended c.sink.held c.sink_after.held old new done.0 held.0 held.1 done.2
              ∙ ap (λ (t : List ℕ). old ++ t) w.told;
          no_void = w.old;
        },
      );
}

-- What is said of the words, the source and the sink: the same as of the report.

abbrev HasWords : PlainCall Answer → ℕ → Type 0
HasWords c words =
    Serves outcome_of IsWhyOf IsUnfit WantsMemory 67108864
    (λ (s : SourceState). s) (λ (k : SinkTells). k.held) (λ (k : SinkTells). k.faults) (λ (k : SinkTells). k.pace)
    words c.answer c.source c.source_after c.sink c.sink_after

abbrev IsLikeReport : PlainCall Answer → Type 0
IsLikeReport c = HasWords c c.words

like_report : (c : PlainCall Answer) → IsWhyCall c → IsLikeReport c
like_report c call = subst (HasWords c) (sym call.0) call.1

ends_like : (end : Outcome) (c : PlainCall Answer) → EndsPlainly IsWhyCall outcome_of end c
    → EndsPlainly IsLikeReport outcome_of end c
ends_like end c h = record {
  serves = like_report c h.serves;
  no_words = h.no_words;
  end_is = h.end_is;
  counts = h.counts;
  writes = h.writes;
}

told_like : PlainlyTold IsLikeReport outcome_of 67108864 writers_apart
told_like = plainly_told outcome_of IsWhyOf IsUnfit WantsMemory 67108864 writers_apart refl none_refused (λ before after wants. inl wants.came)

pub why_plainly_told : PlainlyTold IsWhyCall outcome_of 67108864 writers_apart
why_plainly_told = record {
  usage = λ c call. told_like.usage c (like_report c call);
  unread = λ c call. told_like.unread c (like_report c call);
  unwritten = λ c call. told_like.unwritten c (like_report c call);
  no_usage = λ c call. told_like.no_usage c (like_report c call);
  too_long = λ c h. told_like.too_long c (ends_like TooLong c h);
  not_too_long = λ c h. told_like.not_too_long c (ends_like NoMemory c h);
  memory = λ c h. told_like.memory c (ends_like NoMemory c h);
  read_fault = λ c h. told_like.read_fault c (ends_like ReadFault c h);
  no_read_fault = λ c h. told_like.no_read_fault c (ends_like NoMemory c h);
  write_fault = λ c h. told_like.write_fault c (ends_like WriteFault c h);
  no_write_fault = λ c h. told_like.no_write_fault c (ends_like Done c h);
  whole_done = λ c h. told_like.whole_done c (ends_like Done c h);
  whole_write = λ c h. told_like.whole_write c (ends_like WriteFault c h);
  whole_refused = λ c h. told_like.whole_refused c (ends_like Refused c h);
  whole_journal = λ c h. told_like.whole_journal c (ends_like BadJournal c h);
  none_refused = λ c h. told_like.none_refused c (ends_like Refused c h);
  none_journal = λ c h. told_like.none_journal c (ends_like BadJournal c h);
  none_too_long = λ c h. told_like.none_too_long c (ends_like TooLong c h);
  none_read = λ c h. told_like.none_read c (ends_like ReadFault c h);
  none_memory = λ c h. told_like.none_memory c (ends_like NoMemory c h);
  complete = λ c reads calm.
      told_like.complete c
      (record { serves = like_report c reads.serves; no_words = reads.no_words; input = reads.input })
      (record {
        counts = calm.counts;
        given = calm.given;
        read = calm.read;
        written = calm.written;
        memory = calm.memory;
      });
}
