-- What is said of the run that a command made, field by field.
use Rattle.std.proofs.Common.{◌≡◌, ◌≢◌, ◌<◌, ◌≤◌, ◌++◌, ◌∷◌, [], Bool, true, false, ℕ, List, Option, Some, None, Ok, IfSome, refl, sym, ap, subst, ◌∙◌, codes, decimal, length, take, drop, count_by}
use Rattle.lt_modes.specs.Script.{ScriptData, client_name}
use Rattle.lt_spec.specs.FixedOrder.{Turn, pick, count_turns}
use Rattle.lt_spec.specs.Ordered.{first_bad}
use Rattle.lt_spec.specs.Promised.{Promised}
use Rattle.lt_spec.specs.World.{Logged, World, world_after, start, after, logged, full_node, is_of_node, can_move}
use Rattle.lt_text.specs.Text.{lines}
use Rattle.lt_script.specs.Reading.{read_of}
use Rattle.lt_script.specs.Printing.{print_of}
use Rattle.lt_gen.specs.Generator.{script_of, seeded}
use Rattle.lt_merge.specs.Merging.{AreRising}
use Rattle.lt_words.specs.declared.command.Command.{Command}
use Rattle.lt_words.specs.declared.command.Command.TheVariants.{Run, SimFirst, Sim, Check, Make, Soak, Order}
use Rattle.lt_journal.specs.RunLines.{text_of}
use Rattle.lt_journal.specs.Split.{input_parts}
use Rattle.lt_threads.specs.Threads.{StaysWithin, GoesFar}
use Rattle.lt_call.specs.Scripts.{Denotes}
use Rattle.lt_serve.specs.declared.schedule.Schedule.{Schedule}
use Rattle.lt_serve.specs.declared.schedule.Schedule.TheVariants.{First, Drawn}
use Rattle.lt_serve.specs.declared.status.Status.{Status}
use Rattle.lt_serve.specs.declared.status.Status.TheVariants.{Done, Stuck, Cut, WriteFault, Usage, Refused, TooLong, ReadFault, NoMemory, BadJournal}
use Rattle.lt_serve.specs.Endings.{RanTo, EndsAs, StopsInTime, cut_of}
use Rattle.lt_serve.specs.Schedules.{AreInOrder, AreInOrderFrom}
use Rattle.lt_serve.specs.TopCall.{Journals, JournalsInOrder, JournalsThreads, JournalsBy, Soaks, Checks, TellsOrder, Prints, greatest_script, order_answer}
use Rattle.lt_law_any.specs.AnyRun.{IsEndOf, RunSo, AnyRun, PartRun, JournalSays, IsSimulated, IsThreaded, RunsSay, OrderRows, place_by, AnySoak, SoaksSay, AnyCheck, AnyOrdering, OthersSay}

any_ends : (moves : ℕ) (ending : Status) (script : ScriptData) (run : List Logged) → EndsAs moves ending script run → IsEndOf moves ending script run
any_ends moves Done script run e = e
any_ends moves Stuck script run e = e
any_ends moves (Cut node) script run e = e
any_ends moves Usage script run e = e
any_ends moves (Refused fault) script run e = e
any_ends moves TooLong script run e = e
any_ends moves ReadFault script run e = e
any_ends moves WriteFault script run e = e
any_ends moves NoMemory script run e = e
any_ends moves (BadJournal line) script run e = e

any_promised : (moves : ℕ) (ending : Status) (script : ScriptData) (run : List Logged) → RanTo moves ending script run → Promised script run
any_promised moves ending script run r = r.promised

any_within : (moves : ℕ) (ending : Status) (script : ScriptData) (run : List Logged) → RanTo moves ending script run
    → (q : ℕ) → q < script.nodes → count_by (is_of_node q) run ≤ moves
any_within moves ending script run r q below = r.within q below

ran_so : (moves : ℕ) (ending : Status) (script : ScriptData) (run : List Logged) → RanTo moves ending script run → RunSo moves ending script run
ran_so moves ending script run r = record {
  is_script = r.is_script;
  is_short = r.is_short;
  is_run = r.is_run;
  within = any_within moves ending script run r;
  ends = any_ends moves ending script run r.ends;
  promised = any_promised moves ending script run r;
}

any_denoted : (left : Option (List ℕ)) (script : ScriptData) → Denotes left script → IfSome left (λ bytes. read_of bytes ≡ Ok script)
any_denoted left script d = d

any_text : (moves : ℕ) (ending : Status) (left : Option (List ℕ)) (run : List Logged) (text : List ℕ) → (j : Journals moves ending left run text)
    → text ≡ text_of j.script run (cut_of ending)
any_text moves ending left run text j = j.journal

any_run : (also : ℕ → ScriptData → List Logged → Type 0) (moves : ℕ) (ending : Status) (left : Option (List ℕ)) (run : List Logged) (text old new : List ℕ)
    → (j : Journals moves ending left run text) → also moves j.script run → new ≡ old ++ text
    → AnyRun also moves ending (cut_of ending) left run old new
any_run also moves ending left run text old new j so e = record {
  script = j.script;
  denoted = any_denoted left j.script j.denoted;
  ran = ran_so moves ending j.script run j.ran;
  also_so = so;
  text = e ∙ ap (λ (t : List ℕ). old ++ t) (any_text moves ending left run text j);
}

part_run : (also : ℕ → ScriptData → List Logged → Type 0) (moves : ℕ) (ending : Status) (left : Option (List ℕ)) (run : List Logged) (text old new : List ℕ)
    → (j : Journals moves ending left run text) → also moves j.script run → (size : ℕ) → size < length text → new ≡ old ++ take size text
    → PartRun also moves left run old new
part_run also moves ending left run text old new j so size less e =
    let same = any_text moves ending left run text j in
    record {
      script = j.script;
      denoted = any_denoted left j.script j.denoted;
      ending = ending;
      ran = ran_so moves ending j.script run j.ran;
      also_so = so;
      node = cut_of ending;
      size = size;
      less = subst (λ (t : List ℕ). size < length t) same less;
      text = e ∙ ap (λ (t : List ℕ). old ++ take size t) same;
    }

journal_says : (command : Command) (also : ℕ → ScriptData → List Logged → Type 0)
    → ((moves : ℕ) (ending : Status) (left : Option (List ℕ)) (run : List Logged) (text : List ℕ) → JournalsBy moves command ending left run text
    → (j : Journals moves ending left run text) × also moves j.script run)
    → JournalSays command also
journal_says command also opens = record {
  done = λ moves left run old new t. let o = opens moves Done left run t.0 t.1 in any_run also moves Done left run t.0 old new o.0 o.1 t.2;
  stuck = λ moves left run old new t. let o = opens moves Stuck left run t.0 t.1 in any_run also moves Stuck left run t.0 old new o.0 o.1 t.2;
  cut = λ node moves left run old new t.
      let o = opens moves (Cut node) left run t.0 t.1 in any_run also moves (Cut node) left run t.0 old new o.0 o.1 t.2;
  part = λ moves left run old new t.
      let o = opens moves t.0 left run t.1 t.2 in
      part_run also moves t.0 left run t.1 old new o.0 o.1 t.3.0 t.3.1 t.3.2;
}

any_in_time : (moves : ℕ) (script : ScriptData) (run : List Logged) → StopsInTime moves script run
    → (k : ℕ) → k < length run → full_node script moves (take k run) ≡ None
any_in_time moves script run h k below = h k below

any_simulated : (schedule : Schedule) (moves : ℕ) (ending : Status) (left : Option (List ℕ)) (run : List Logged) (text : List ℕ)
    → JournalsInOrder schedule moves ending left run text → (j : Journals moves ending left run text) × IsSimulated schedule moves j.script run
any_simulated schedule moves ending left run text j = (j.journals, (j.in_order, any_in_time moves j.journals.script run j.in_time))

any_far : (moves : ℕ) (ending : Status) (left : Option (List ℕ)) (run : List Logged) (text : List ℕ) → (j : JournalsThreads moves ending left run text)
    → (q : ℕ) → q < j.journals.script.nodes → can_move j.journals.script (world_after j.journals.script run) q ≡ true → count_by (is_of_node q) run ≡ moves
any_far moves ending left run text j q below moving = j.far q below moving

any_rising : (moves : ℕ) (ending : Status) (left : Option (List ℕ)) (run : List Logged) (text : List ℕ) → JournalsThreads moves ending left run text
    → AreRising run
any_rising moves ending left run text j = j.rising

any_threaded : (moves : ℕ) (ending : Status) (left : Option (List ℕ)) (run : List Logged) (text : List ℕ)
    → JournalsThreads moves ending left run text → (j : Journals moves ending left run text) × IsThreaded moves j.script run
any_threaded moves ending left run text j = (j.journals, (any_rising moves ending left run text j, any_far moves ending left run text j))

pub runs_say : RunsSay
runs_say = record {
  first = journal_says SimFirst (IsSimulated First) (any_simulated First);
  drawn = λ seed. journal_says (Sim seed) (IsSimulated (Drawn (seeded seed))) (any_simulated (Drawn (seeded seed)));
  threads = journal_says Run IsThreaded any_threaded;
}

order_whole : (script : ScriptData) (schedule : Schedule) (run : List Logged) → AreInOrder schedule script run → AreInOrderFrom script (start script) schedule run
order_whole script schedule run h = h

order_next : (script : ScriptData) (w : World) (schedule : Schedule) (entry : Logged) (rest : List Logged)
    → AreInOrderFrom script w schedule (entry ∷ rest)
    → (turn : Turn) × (pick script w (place_by schedule (count_turns script w)).0 ≡ Some turn) × (entry ≡ logged script w turn.node turn.step)
order_next script w First entry rest h = h.0
order_next script w (Drawn numbers) entry rest h = h.0

order_later : (script : ScriptData) (w : World) (schedule : Schedule) (entry : Logged) (rest : List Logged)
    → AreInOrderFrom script w schedule (entry ∷ rest)
    → AreInOrderFrom script (after script w entry.made.stamp.node entry.made.step) (place_by schedule (count_turns script w)).1 rest
order_later script w First entry rest h = h.1
order_later script w (Drawn numbers) entry rest h = h.1

pub order_rows : OrderRows
order_rows = record { whole = order_whole; next = order_next; later = order_later }

soak_so : (seed moves : ℕ) (ending : Status) (run : List Logged) (text : List ℕ) → Soaks seed moves ending run text → AnySoak seed moves ending run
soak_so seed moves ending run text j = record {
  ran = ran_so moves ending (greatest_script seed) run j.ran;
  threaded = (j.rising, j.far);
}

pub soaks_say : SoaksSay
soaks_say = record {
  done = λ seed moves left run old new t. (soak_so seed moves Done run t.0 t.1, t.2 ∙ ap (λ (x : List ℕ). old ++ x) t.1.told);
  stuck = λ seed moves left run old new t. (soak_so seed moves Stuck run t.0 t.1, t.2 ∙ ap (λ (x : List ℕ). old ++ x) t.1.told);
  cut = λ seed node moves left run old new t. (soak_so seed moves (Cut node) run t.0 t.1, t.2 ∙ ap (λ (x : List ℕ). old ++ x) t.1.told);
}

check_text : (ending : Status) (left : Option (List ℕ)) (run : List Logged) (text : List ℕ) → Checks ending left run text
    → text ≡ codes "ok " ++ decimal (length run) ++ codes "\n"
check_text ending left run text c = c.counted

check_accepted : (ending : Status) (left : Option (List ℕ)) (run : List Logged) (text : List ℕ) → (c : Checks ending left run text)
    → IfSome left (λ bytes. lines (drop (input_parts bytes).journal bytes) ≡ lines (text_of c.script run None))
check_accepted ending left run text c = c.accepted

check_denoted : (ending : Status) (left : Option (List ℕ)) (run : List Logged) (text : List ℕ) → (c : Checks ending left run text)
    → IfSome left (λ bytes. read_of (take (input_parts bytes).script bytes) ≡ Ok c.script)
check_denoted ending left run text c = c.denoted

check_promised : (ending : Status) (left : Option (List ℕ)) (run : List Logged) (text : List ℕ) → (c : Checks ending left run text)
    → Promised c.script run
check_promised ending left run text c = c.promised

check_so : (left : Option (List ℕ)) (run : List Logged) (text old new : List ℕ) → Checks Done left run text → new ≡ old ++ text → AnyCheck left run old new
check_so left run text old new c e = record {
  script = c.script;
  is_script = c.is_script;
  is_short = c.is_short;
  denoted = check_denoted Done left run text c;
  accepted = check_accepted Done left run text c;
  is_run = c.finished.is_run;
  rest = c.finished.at_rest;
  promised = check_promised Done left run text c;
  text = e ∙ ap (λ (t : List ℕ). old ++ t) (check_text Done left run text c);
}

order_text : (ending : Status) (left : Option (List ℕ)) (run : List Logged) (text : List ℕ) → (o : TellsOrder ending left run text)
    → text ≡ order_answer o.script (first_bad o.script)
order_text ending left run text o = o.told

order_so : (left : Option (List ℕ)) (run : List Logged) (text old new : List ℕ) → TellsOrder Done left run text → new ≡ old ++ text → AnyOrdering left run old new
order_so left run text old new o e =
    let told : new ≡ old ++ order_answer o.script (first_bad o.script) = e ∙ ap (λ (t : List ℕ). old ++ t) (order_text Done left run text o) in
    record {
      script = o.script;
      denoted = any_denoted left o.script o.denoted;
      no_run = o.no_run;
      ordered = λ none. told ∙ ap (λ (bad : Option ℕ). old ++ order_answer o.script bad) none;
      not_ordered = λ client some. told ∙ ap (λ (bad : Option ℕ). old ++ order_answer o.script bad) some;
    }

made_text : (script : ScriptData) (run : List Logged) (text : List ℕ) → Prints script Done run text → (run ≡ []) × (text ≡ print_of script)
made_text script run text p = (p.1, p.2)

stuck_done : Stuck ≡ Done → ⊥
stuck_done e = cc

cut_done : (node : ℕ) → Cut node ≡ Done → ⊥
cut_done node e = cc

pub others_say : OthersSay
others_say = record {
  check = λ moves left run old new t. check_so left run t.0 old new t.1 t.2;
  order = λ moves left run old new t. order_so left run t.0 old new t.1 t.2;
  make = λ version nodes clients commands seed moves left run old new t.
      let made = made_text (script_of version nodes clients commands seed) run t.0 t.1 in (made.0, t.2 ∙ ap (λ (x : List ℕ). old ++ x) made.1);
  check_stuck = λ moves left run old new t. stuck_done t.1.done;
  order_stuck = λ moves left run old new t. stuck_done t.1.done;
  check_cut = λ node moves left run old new t. cut_done node t.1.done;
  order_cut = λ node moves left run old new t. cut_done node t.1.done;
}
