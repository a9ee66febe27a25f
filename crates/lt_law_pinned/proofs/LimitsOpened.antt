-- The script that is made from a seed.
use Rattle.std.proofs.Common.{◌≡◌, refl, arith, ℕ, List, Ok, Option, Some, None, subst, ◌≤◌, true, [], ◌∷◌, ◌++◌, sym, ap, ◌∙◌, Result, ◌&&◌, ◌==◌, not, nat_lt, take, count_by}
use Rattle.std.proofs.lemmas.List.Sums.{count_by-le-length}
use Rattle.std.proofs.lemmas.Bool.{and_parts, false≢true}
use Rattle.rand_core.specs.Pcg32Seed as seeds
use Rattle.rand_core.specs.Steps as steps
use Rattle.lt_modes.specs.Script.{ScriptData}
use Rattle.lt_modes.specs.Modes.{conflicts}
use Rattle.lt_spec.specs.World.{Logged, world_after, can_move, is_some_letter, is_of_node, IsRun}
use Rattle.lt_spec.specs.Script.{IsScript, IsShort}
use Rattle.lt_text.specs.Text as text
use Rattle.lt_script.specs.Printing.{print_of}
use Rattle.lt_script.specs.Printing as printing
use Rattle.lt_script.specs.declared.fault.ScriptFault.{ScriptFault}
use Rattle.lt_script.specs.Reading.{read_of}
use Rattle.lt_script.specs.Reading as reading
use Rattle.lt_gen.specs.Generator.{script_of, seeded}
use Rattle.lt_gen.specs.Generator as generator
use Rattle.lt_words.specs.declared.command.Command.{Command}
use Rattle.lt_words.specs.declared.command.Command.TheVariants.{Run, SimFirst, Sim, Soak}
use Rattle.lt_journal.specs.Split as split
use Rattle.lt_journal.specs.Split.{input_parts}
use Rattle.lt_law_ends.specs.EndLaws.{NeverCutAtAll, RunsAreShort}
use Rattle.lt_law_journals.specs.Checking.{IsFinished}
use Rattle.lt_law_journals.proofs.Inputs.{journal_part}
use Rattle.lt_threads.specs.Threads.{StaysWithin, GoesFar}
use Rattle.lt_checker.specs.Input.{IsJournalOf}
use Rattle.lt_serve.specs.declared.status.Status.{Status}
use Rattle.lt_serve.specs.declared.status.Status.TheVariants.{Stuck, Cut, Done}
use Rattle.lt_serve.specs.Endings.{RanTo, StopsInTime}
use Rattle.lt_serve.specs.declared.schedule.Schedule.{Schedule}
use Rattle.lt_serve.specs.declared.schedule.Schedule.TheVariants.{First, Drawn}
use Rattle.lt_serve.specs.Schedules.{AreInOrder}
use Rattle.lt_serve.specs.TopCall.{Journals, JournalsInOrder, JournalsBy, Checks, greatest_script}
use Rattle.lt_serve.proofs.NeverCut.{never_cut}
use Rattle.lt_law_pinned.specs.Worlds.{made_from_233, made_text}
use Rattle.lt_law_pinned.specs.Whole.{DrawnIs}
use Rattle.lt_law_pinned.proofs.TwoWritersSay.{same_script}
use Rattle.lt_law_pinned.proofs.Numbers.{zero_text, one_text, two_text}
use Rattle.lt_law_pinned.specs.Told.{WordsAre, OpensRun, RunsTold, OrdersTold, TimesTold, two_writers, two_writers_script, both_moves, two_nodes, two_nodes_script, unlocks, four_moves, one_each, one_and_two, WithinTold, FarTold, EachTimeTold, IsNeverCut, EndsTold, SoakTold, CheckedRun, CheckTold, MakeTold, checked_writers, letter_first}

made : script_of 1 2 3 20 233 ≡ made_from_233
unfolding generator.clients_of generator.requests_in generator.draw_of generator.seeded seeds.pcg32_seed steps.word_bytes steps.u32_at
made = rw zero_text (rw one_text (rw two_text refl))

printed : print_of made_from_233 ≡ made_text
unfolding printing.print_of
printed = rw zero_text (rw one_text (rw two_text refl))

pub drawn_is : DrawnIs
drawn_is = record { script = made; text = printed }

-- Each field of what is said of a run that was made.

pub words_are : WordsAre
words_are = record {
  run = refl;
  check = refl;
  order = refl;
  sim_first = refl;
  sim = refl;
  soak = refl;
  make = refl;
  make_of_version = refl;
  nothing = refl;
  sim_alone = refl;
  soak_alone = refl;
  check_with = refl;
  soak_first = refl;
  great_seed = refl;
  make_few = refl;
  made = refl;
  no_nodes = refl;
  many_nodes = refl;
}

pub writers_read : read_of two_writers ≡ Ok two_writers_script
unfolding reading.script_body reading.read_from text.lines text.cut_at reading.line_step text.words
writers_read = refl

-- a run of what the bytes denote is one of the script
ran_so : (moves : ℕ) (ending : Status) (run : List Logged) (text : List ℕ) → Journals moves ending (Some two_writers) run text
    → RanTo moves ending two_writers_script run
ran_so moves ending run text j =
    subst (λ (s : ScriptData). RanTo moves ending s run) (same_script j.script two_writers_script (read_of two_writers) j.denoted writers_read) j.ran

-- what ran so is such a run
pub opened : (command : Command) (input : Option (List ℕ)) (script : ScriptData)
    → ((moves : ℕ) (ending : Status) (run : List Logged) (text : List ℕ) → JournalsBy moves command ending input run text → RanTo moves ending script run)
    → OpensRun command input script
opened command input script ran = record {
  done = λ moves run t. let r = ran moves _ run t.0 t.1 in record { is_run = r.is_run; rest = r.ends.0; waits = r.ends.1; promised = r.promised };
  stuck = λ moves run t. let r = ran moves _ run t.0 t.1 in record { is_run = r.is_run; rest = r.ends.0; waits = r.ends.1; promised = r.promised };
  cut = λ moves node run t. let r = ran moves _ run t.0 t.1 in record { is_run = r.is_run; full = r.ends; promised = r.promised };
}

pub runs_told : RunsTold
runs_told = record {
  first = opened SimFirst (Some two_writers) two_writers_script (λ moves ending run text j. ran_so moves ending run text j.journals);
  drawn = λ seed. opened (Sim seed) (Some two_writers) two_writers_script (λ moves ending run text j. ran_so moves ending run text j.journals);
  threads = opened Run (Some two_writers) two_writers_script (λ moves ending run text j. ran_so moves ending run text j.journals);
}

in_order : (schedule : Schedule) (moves : ℕ) (ending : Status) (bytes : List ℕ) (script : ScriptData) (run : List Logged)
    (text : List ℕ) → read_of bytes ≡ Ok script → JournalsInOrder schedule moves ending (Some bytes) run text
    → AreInOrder schedule script run
in_order schedule moves ending bytes script run text read j =
    subst (λ (s : ScriptData). AreInOrder schedule s run)
    (same_script j.journals.script script (read_of bytes) j.journals.denoted read) j.in_order

pub orders_told : OrdersTold
orders_told = record {
  first_done = λ moves bytes script run read t. in_order First moves Done bytes script run t.0 read t.1;
  first_stuck = λ moves bytes script run read t. in_order First moves Stuck bytes script run t.0 read t.1;
  first_cut = λ node moves bytes script run read t. in_order First moves (Cut node) bytes script run t.0 read t.1;
  drawn_done = λ seed moves bytes script run read t.
      in_order (Drawn (seeded seed)) moves Done bytes script run t.0 read t.1;
  drawn_stuck = λ seed moves bytes script run read t.
      in_order (Drawn (seeded seed)) moves Stuck bytes script run t.0 read t.1;
  drawn_cut = λ seed node moves bytes script run read t.
      in_order (Drawn (seeded seed)) moves (Cut node) bytes script run t.0 read t.1;
}

pub some_none : (node : ℕ) → Some node ≡ None → ⊥
some_none node e = cc

-- after its first move the node is full
not_in_time : StopsInTime 1 two_writers_script both_moves → ⊥
unfolding conflicts
not_in_time stops = some_none 0 (stops 1 (omega arith))

late : (text : List ℕ) → (j : Journals 1 Stuck (Some two_writers) both_moves text) → StopsInTime 1 j.script both_moves → ⊥
late text j stops =
    not_in_time
    (subst (λ (s : ScriptData). StopsInTime 1 s both_moves) (same_script j.script two_writers_script (read_of two_writers) j.denoted writers_read) stops)

pub times_told : TimesTold
times_told = record {
  first = λ t. late t.0 t.1.journals t.1.in_time;
  drawn = λ seed t. late t.0 t.1.journals t.1.in_time;
}

-- How far each node went, in runs that go too far or not far enough.

nodes_read : read_of two_nodes ≡ Ok two_nodes_script
unfolding reading.script_body reading.read_from text.lines text.cut_at reading.line_step text.words
nodes_read = refl

-- what is said of the script of a run of these bytes is said of the literal
of_nodes : (P : ScriptData → Type 0) (moves : ℕ) (ending : Status) (run : List Logged) (text : List ℕ)
    → (j : Journals moves ending (Some two_nodes) run text) → P j.script → P two_nodes_script
of_nodes P moves ending run text j p = subst P (same_script j.script two_nodes_script (read_of two_nodes) j.denoted nodes_read) p

of_writers : (P : ScriptData → Type 0) (moves : ℕ) (ending : Status) (run : List Logged) (text : List ℕ)
    → (j : Journals moves ending (Some two_writers) run text) → P j.script → P two_writers_script
of_writers P moves ending run text j p = subst P (same_script j.script two_writers_script (read_of two_writers) j.denoted writers_read) p

not_two : 2 ≤ 1 → ⊥
not_two e = omega (arith, e)

not_one : (made : ℕ) → made ≤ 0 → made ≡ 1 → ⊥
not_one made none e = omega (arith, none, e)

four_too_many : StaysWithin 1 two_nodes_script four_moves → ⊥
four_too_many within = not_two (within 1 (omega arith))

three_too_many : StaysWithin 1 two_nodes_script one_and_two → ⊥
three_too_many within = not_two (within 1 (omega arith))

both_too_many : StaysWithin 1 two_writers_script both_moves → ⊥
both_too_many within = not_two (within 0 (omega arith))

pub within_told : WithinTold
within_told = record {
  run_done = λ t. four_too_many (of_nodes (λ s. StaysWithin 1 s four_moves) _ _ _ _ t.1.journals t.1.journals.ran.within);
  run_stuck = λ t. both_too_many (of_writers (λ s. StaysWithin 1 s both_moves) _ _ _ _ t.1.journals t.1.journals.ran.within);
  run_cut = λ t. three_too_many (of_nodes (λ s. StaysWithin 1 s one_and_two) _ _ _ _ t.1.journals t.1.journals.ran.within);
  soak_done = λ seed t. not_two (t.1.ran.within 15 (omega arith));
  soak_stuck = λ seed t. not_two (t.1.ran.within 15 (omega arith));
  soak_cut = λ seed t. not_two (t.1.ran.within 15 (omega arith));
}

second_can : can_move two_nodes_script (world_after two_nodes_script (unlocks 1 0 ∷ [])) 1 ≡ true
unfolding conflicts
second_can = refl

first_can : can_move two_nodes_script (world_after two_nodes_script (unlocks 1 1 ∷ [])) 0 ≡ true
unfolding conflicts
first_can = refl

second_near : GoesFar 1 two_nodes_script (unlocks 1 0 ∷ []) → ⊥
second_near far = not_one 0 (omega arith) (far 1 (omega arith) second_can)

first_near : GoesFar 1 two_nodes_script (unlocks 1 1 ∷ []) → ⊥
first_near far = not_one 0 (omega arith) (far 0 (omega arith) first_can)

pub far_told : FarTold
far_told = record {
  run_second = λ t. second_near (of_nodes (λ s. GoesFar 1 s (unlocks 1 0 ∷ [])) _ _ _ _ t.1.journals t.1.far);
  run_first = λ t. first_near (of_nodes (λ s. GoesFar 1 s (unlocks 1 1 ∷ [])) _ _ _ _ t.1.journals t.1.far);
  soak = λ seed moves node run t q below can. t.1.far q below can;
}

-- after its first move the first node is full
four_late : StopsInTime 1 two_nodes_script four_moves → ⊥
unfolding conflicts
four_late stops = some_none 0 (stops 1 (omega arith))

two_late : StopsInTime 1 two_nodes_script one_each → ⊥
unfolding conflicts
two_late stops = some_none 0 (stops 1 (omega arith))

pub each_time_told : EachTimeTold
each_time_told = record {
  first_done = λ t. four_late (of_nodes (λ s. StopsInTime 1 s four_moves) _ _ _ _ t.1.journals t.1.in_time);
  first_cut = λ t. two_late (of_nodes (λ s. StopsInTime 1 s one_each) _ _ _ _ t.1.journals t.1.in_time);
  drawn_done = λ seed t. four_late (of_nodes (λ s. StopsInTime 1 s four_moves) _ _ _ _ t.1.journals t.1.in_time);
  drawn_cut = λ seed t. two_late (of_nodes (λ s. StopsInTime 1 s one_each) _ _ _ _ t.1.journals t.1.in_time);
}

-- by the law, no run of a script is cut there
never : NeverCutAtAll → (command : Command) → IsNeverCut command
never law command input node run t = never_cut 1073741824 (Some command) (Cut node) input run None None law (omega arith) t (λ e. cc) node refl

pub ends_told : NeverCutAtAll → EndsTold
ends_told law = record {
  usual = refl;
  first = never law SimFirst;
  drawn = λ seed. never law (Sim seed);
  threads = never law Run;
  soak = λ seed. never law (Soak seed);
}

-- Each field of what is said of the other commands.

pub soak_told : SoakTold
soak_told = record {
  runs = λ seed. opened (Soak seed) None (greatest_script seed) (λ moves ending run text j. j.ran);
  not_falling = λ seed t. false≢true t.1.rising.0.0;
  not_crossed = λ seed t. false≢true t.1.rising.0.0;
  run_not_falling = λ t. false≢true t.1.rising.0.0;
  run_not_crossed = λ t. false≢true t.1.rising.0.0;
  done_text = λ seed run old new t. t.2 ∙ ap (λ (text : List ℕ). old ++ text) t.1.told;
  stuck_text = λ seed run old new t. t.2 ∙ ap (λ (text : List ℕ). old ++ text) t.1.told;
}

writers_before : take (input_parts checked_writers).script checked_writers ≡ two_writers
unfolding text.lines text.cut_at text.words split.after_first_line
writers_before = refl

few_moves : RunsAreShort → (script : ScriptData) (run : List Logged) → IsScript script → IsShort script → IsRun script run → (node : ℕ)
    → count_by (is_of_node node) run ≤ 1073741824
few_moves short script run is_script is_short is_run node =
    omega (arith, short script run is_script is_short is_run, count_by-le-length (is_of_node node) run)

-- what `check` says of some script
checked_so : RunsAreShort → (input : Option (List ℕ)) (run : List Logged) (text : List ℕ) → (k : Checks Done input run text) → CheckedRun k.script run
checked_so short input run text k = record {
  is_run = k.finished.is_run;
  rest = k.finished.at_rest;
  few = few_moves short k.script run k.is_script k.is_short k.finished.is_run;
  promised = k.promised;
}

-- no run of a script begins with a letter
begins_with_letter : (script : ScriptData) → IsFinished script letter_first → ⊥
begins_with_letter script f =
    let from = and_parts (nat_lt 1 script.nodes) (nat_lt 0 script.nodes && (not (1 == 0) && is_some_letter [])) f.is_run.0.enabled in
    let to = and_parts (nat_lt 0 script.nodes) (not (1 == 0) && is_some_letter []) from.1 in
    false≢true to.1

-- the script of these lines
writers_checked : (run : List Logged) (text : List ℕ) → (k : Checks Done (Some checked_writers) run text) → k.script ≡ two_writers_script
writers_checked run text k =
    same_script k.script two_writers_script (read_of two_writers) (subst (λ (bytes : List ℕ). read_of bytes ≡ Ok k.script) writers_before k.denoted) writers_read

pub check_told : RunsAreShort → CheckTold
check_told short = record {
  run = λ run t. subst (λ (s : ScriptData). CheckedRun s run) (writers_checked run t.0 t.1) (checked_so short _ run t.0 t.1);
  same_lines = λ run t.
      sym (journal_part checked_writers) ∙ subst (λ (s : ScriptData). IsJournalOf (Some checked_writers) s run) (writers_checked run t.0 t.1) t.1.accepted;
  unknown = λ run t. (t.1.script, checked_so short _ run t.0 t.1);
  not_letter = λ t. begins_with_letter t.1.script t.1.finished;
  never_stuck = λ run t. not_done t.1.done;
}
  where
    not_done : Stuck ≡ Done → ⊥
    not_done e = cc

pub make_told : MakeTold
make_told = record {
  text = λ run old new t. t.2 ∙ ap (λ (text : List ℕ). old ++ text) (t.1.2 ∙ (ap print_of drawn_is.script ∙ drawn_is.text));
  no_run = λ run t. t.1.1;
}
