-- A result says one thing.
use Rattle.std.proofs.Common.{◌≡◌, ℕ, List, Ok, Err, Some, arith, true, [], ◌∷◌, refl, sym, ap, ap₂, subst, subst₂, inl, inr, ◌∙◌, ◌++◌, None, Result, ◌⊎◌, IsTrue, not, ◌&&◌, ◌==◌, nat_lt, ◌<◌, length, take, eqb-true, ltb-true}
use Rattle.std.proofs.lemmas.Bool.{and_parts, false≢true}
use Rattle.lt_modes.specs.Script.{ScriptData}
use Rattle.lt_modes.specs.declared.moves.Step.{Step}
use Rattle.lt_modes.specs.declared.moves.Step.TheVariants.{Act, Take}
use Rattle.lt_modes.specs.Modes.{conflicts}
use Rattle.lt_spec.specs.World.{Logged, World, start, after, logged, is_enabled, is_runnable, has_mail, is_some_letter, IsMove, IsRun}
use Rattle.lt_spec.specs.NodeMove.{home}
use Rattle.lt_spec.specs.declared.moves.TheConstants.{MAX_MOVES}
use Rattle.lt_spec.specs.FixedOrder.{first_run}
use Rattle.lt_text.specs.Text as text
use Rattle.lt_script.specs.declared.fault.ScriptFault.{ScriptFault}
use Rattle.lt_script.specs.Reading.{read_of}
use Rattle.lt_script.specs.Reading as reading
use Rattle.lt_words.specs.declared.command.Command.{Command}
use Rattle.lt_words.specs.declared.command.Command.TheVariants.{Run, SimFirst, Sim}
use Rattle.lt_journal.specs.RunLines.{text_of}
use Rattle.lt_serve.specs.declared.status.Status.{Status}
use Rattle.lt_serve.specs.declared.status.Status.TheVariants.{Done, Stuck, Usage, Refused, TooLong, ReadFault, WriteFault, NoMemory, Cut, BadJournal}
use Rattle.lt_serve.specs.Endings.{EndsAs, RanTo, cut_of}
use Rattle.lt_serve.specs.TopCall.{Journals, JournalsBy, JournalsInOrder}
use Rattle.lt_serve.specs.declared.schedule.Schedule.TheVariants.{First}
use Rattle.lt_serve.proofs.Ordered.{first_from}
use Rattle.lt_law_pinned.specs.Examples.{one_lock, one_lock_script, the_move, one_lock_journal, OnlyJournal, OneLock, two_writers, two_writers_script, two_writers_journal, first_move, both_moves, TwoWriters, CutShort}
use Rattle.lt_law_pinned.proofs.MakeAnswers.{one_lock_text, two_writers_text, cut_text}

pub same_bytes : (a b : List ℕ) → Some a ≡ Some b → a ≡ b
same_bytes a b e = cc

pub same_script : (a b : ScriptData) (read : Result ScriptData ScriptFault) → read ≡ Ok a → read ≡ Ok b → a ≡ b
same_script a b read e f = cc

pub same_fault : (a b : ScriptFault) (read : Result ScriptData ScriptFault) → read ≡ Err a → read ≡ Err b → a ≡ b
same_fault a b read e f = cc

pub script_or_fault : (script : ScriptData) (fault : ScriptFault) (read : Result ScriptData ScriptFault) → read ≡ Ok script → read ≡ Err fault → ⊥
script_or_fault script fault read e f = cc

pub same_run : (a b : List Logged) (answer : Result (List Logged) ℕ) → answer ≡ Ok a → answer ≡ Ok b → a ≡ b
same_run a b answer e f = cc

pub same_line : (a b : ℕ) (answer : Result (List Logged) ℕ) → answer ≡ Err a → answer ≡ Err b → a ≡ b
same_line a b answer e f = cc

pub run_or_line : (run : List Logged) (line : ℕ) (answer : Result (List Logged) ℕ) → answer ≡ Ok run → answer ≡ Err line → ⊥
run_or_line run line answer e f = cc

-- The runs of the small scripts.

pub one_lock_read : read_of one_lock ≡ Ok one_lock_script
unfolding reading.script_body reading.read_from text.lines text.cut_at reading.line_step text.words
one_lock_read = refl

abbrev before : World
before = start one_lock_script

abbrev behind : World
behind = after one_lock_script before 0 (Act 0)

-- with one node no letter is on its way
no_take : (script : ScriptData) (w : World) (p q : ℕ) → script.nodes ≡ 1 → has_mail script w p q ≡ true → ⊥
no_take script w p q one h =
    let from = and_parts (nat_lt p script.nodes) (nat_lt q script.nodes && (not (p == q) && is_some_letter (w.mail p q))) h in
    let to = and_parts (nat_lt q script.nodes) (not (p == q) && is_some_letter (w.mail p q)) from.1 in
    let first : p ≡ 0 = omega (arith, ltb-true p script.nodes from.0, one) in
    let second : q ≡ 0 = omega (arith, ltb-true q script.nodes to.0, one) in
    false≢true (subst₂ (λ (a b : ℕ). (not (a == b) && is_some_letter (w.mail a b)) ≡ true) first second to.1)

-- with one client an act is its own
own_act : (w : World) (q client : ℕ) → is_enabled one_lock_script w q (Act client) ≡ true
    → (q ≡ 0) × (client ≡ 0) × (is_runnable one_lock_script w 0 ≡ true)
own_act w q client h =
    let few = and_parts (nat_lt client 1) (home one_lock_script client == q && is_runnable one_lock_script w client) h in
    let at = and_parts (home one_lock_script client == q) (is_runnable one_lock_script w client) few.1 in
    let first : client ≡ 0 = omega (arith, ltb-true client 1 few.0) in (
      sym (subst (λ (c : ℕ). home one_lock_script c ≡ q) first (eqb-true (home one_lock_script client) q at.0)),
      first,
      subst (λ (c : ℕ). is_runnable one_lock_script w c ≡ true) first at.1,
    )

only_act : (q : ℕ) (step : Step) → is_enabled one_lock_script before q step ≡ true → (q ≡ 0) × (step ≡ Act 0)
only_act q (Act client) h = let own = own_act before q client h in (own.0, ap Act own.1)
only_act q (Take p) h = absurd (no_take one_lock_script before p q refl h)

none_left : (q : ℕ) (step : Step) → is_enabled one_lock_script behind q step ≡ true → ⊥
unfolding conflicts
none_left q (Act client) h = false≢true (own_act behind q client h).2
none_left q (Take p) h = no_take one_lock_script behind p q refl h

-- the first entry of a run is this move
first_entry : (entry : Logged) → IsMove one_lock_script before entry → entry ≡ the_move
first_entry entry m =
    let at = only_act entry.made.stamp.node entry.made.step m.enabled in
    m.made ∙ ap₂ (logged one_lock_script before) at.0 at.1

-- and a second one can't come after it
no_second : (entry next : Logged) → IsMove one_lock_script before entry
    → IsMove one_lock_script (after one_lock_script before entry.made.stamp.node entry.made.step) next → ⊥
no_second entry next m n =
    let at = only_act entry.made.stamp.node entry.made.step m.enabled in
    none_left next.made.stamp.node next.made.step
    (subst₂ (λ (q : ℕ) (step : Step). IsTrue (is_enabled one_lock_script (after one_lock_script before q step) next.made.stamp.node next.made.step)) at.0 at.1 n.enabled)

pub only_runs : (run : List Logged) → IsRun one_lock_script run → (run ≡ []) ⊎ (run ≡ the_move ∷ [])
only_runs [] r = inl refl
only_runs (entry ∷ []) r = inr (ap (λ (e : Logged). e ∷ []) (first_entry entry r.0))
only_runs (entry ∷ next ∷ rest) r = absurd (no_second entry next r.0 r.1.0)

-- What follows of a journal of the script with one lock.

-- before the move the world isn't at rest, nobody waits, and no node is full; after it nobody waits and no node is full
at_start : (ending : Status) → EndsAs MAX_MOVES ending one_lock_script [] → ⊥
unfolding conflicts
at_start Done e = false≢true e.0
at_start Stuck e = false≢true e.0
at_start (Cut node) e = cc
at_start Usage e = e
at_start (Refused fault) e = e
at_start TooLong e = e
at_start ReadFault e = e
at_start WriteFault e = e
at_start NoMemory e = e
at_start (BadJournal line) e = e

at_end : (ending : Status) → EndsAs MAX_MOVES ending one_lock_script (the_move ∷ []) → ending ≡ Done
unfolding conflicts
at_end Done e = refl
at_end Stuck e = absurd (false≢true e.1)
at_end (Cut node) e = cc
at_end Usage e = absurd e
at_end (Refused fault) e = absurd e
at_end TooLong e = absurd e
at_end ReadFault e = absurd e
at_end WriteFault e = absurd e
at_end NoMemory e = absurd e
at_end (BadJournal line) e = absurd e

-- the run ended at rest with nobody waiting, and its text is this
ran_so : (ending : Status) (run : List Logged) → EndsAs MAX_MOVES ending one_lock_script run → (run ≡ []) ⊎ (run ≡ the_move ∷ [])
    → (ending ≡ Done) × (text_of one_lock_script run (cut_of ending) ≡ one_lock_journal)
ran_so ending run e (inl none) = absurd (at_start ending (subst (EndsAs MAX_MOVES ending one_lock_script) none e))
ran_so ending run e (inr one) =
    let done = at_end ending (subst (EndsAs MAX_MOVES ending one_lock_script) one e) in
    (done, ap₂ (λ (r : List Logged) (s : Status). text_of one_lock_script r (cut_of s)) one done ∙ one_lock_text)

pub journals_so : (ending : Status) (run : List Logged) (text : List ℕ) → Journals MAX_MOVES ending (Some one_lock) run text
    → (ending ≡ Done) × (text ≡ one_lock_journal)
journals_so ending run text j =
    let same = same_script j.script one_lock_script (read_of one_lock) j.denoted one_lock_read in
    let ran = subst (λ (s : ScriptData). RanTo MAX_MOVES ending s run) same j.ran in
    let so = ran_so ending run ran.ends (only_runs run ran.is_run) in
    (so.0, j.journal ∙ (ap (λ (s : ScriptData). text_of s run (cut_of ending)) same ∙ so.1))

-- so a command that journals a run of the script can only be done, with this journal
only_journal : (command : Command)
    → ((ending : Status) (run : List Logged) (text : List ℕ) → JournalsBy MAX_MOVES command ending (Some one_lock) run text
    → Journals MAX_MOVES ending (Some one_lock) run text)
    → OnlyJournal command one_lock one_lock_journal
only_journal command journals = record {
  done = λ run old new t. t.2 ∙ ap (λ (text : List ℕ). old ++ text) (journals_so Done run t.0 (journals Done run t.0 t.1)).1;
  part = λ run old new t.
      let whole = (journals_so t.0 run t.1 (journals t.0 run t.1 t.2)).1 in
      subst (λ (text : List ℕ). (n : ℕ) × (n < length text) × (new ≡ old ++ take n text)) whole t.3;
  never_stuck = λ run old new t. stuck_is_done (journals_so Stuck run t.0 (journals Stuck run t.0 t.1)).0;
  never_cut = λ node run old new t. cut_is_done node (journals_so (Cut node) run t.0 (journals (Cut node) run t.0 t.1)).0;
}
  where
    stuck_is_done : Stuck ≡ Done → ⊥
    stuck_is_done e = cc

    cut_is_done : (node : ℕ) → Cut node ≡ Done → ⊥
    cut_is_done node e = cc

pub one_lock_says : OneLock
one_lock_says = record {
  first = only_journal SimFirst (λ ending run text d. d.journals);
  drawn = λ seed. only_journal (Sim seed) (λ ending run text d. d.journals);
  threads = only_journal Run (λ ending run text d. d.journals);
}

-- What follows of a journal of the script with two writers, whose moves were made in their fixed order.

two_writers_read : read_of two_writers ≡ Ok two_writers_script
unfolding reading.script_body reading.read_from text.lines text.cut_at reading.line_step text.words
two_writers_read = refl

-- the runs in the fixed order have up to two moves
first_runs : (run : List Logged) → run ≡ first_run two_writers_script (length run)
    → (run ≡ []) ⊎ ((run ≡ first_move) ⊎ (run ≡ both_moves))
unfolding conflicts
first_runs [] e = inl refl
first_runs (a ∷ []) e = inr (inl e)
first_runs (a ∷ b ∷ []) e = inr (inr e)
first_runs (a ∷ b ∷ c ∷ rest) e = cc

-- what is known of a run in the fixed order that ended so
pub record RanFirst (moves : ℕ) (ending : Status) (run : List Logged) (text : List ℕ) : Type 0 where
  pub ends : EndsAs moves ending two_writers_script run
  pub which : (run ≡ []) ⊎ ((run ≡ first_move) ⊎ (run ≡ both_moves))
  pub journal : text ≡ text_of two_writers_script run (cut_of ending)

ran_first : (moves : ℕ) (ending : Status) (run : List Logged) (text : List ℕ) → JournalsInOrder First moves ending (Some two_writers) run text
    → RanFirst moves ending run text
ran_first moves ending run text j =
    let same = same_script j.journals.script two_writers_script (read_of two_writers) j.journals.denoted two_writers_read in
    let ran = subst (λ (s : ScriptData). RanTo moves ending s run) same j.journals.ran in
    record {
      ends = ran.ends;
      which = first_runs run (first_from j.journals.script (start j.journals.script) run j.in_order ∙ ap (λ (s : ScriptData). first_run s (length run)) same);
      journal = j.journals.journal ∙ ap (λ (s : ScriptData). text_of s run (cut_of ending)) same;
    }

stuck_so : (run : List Logged) → EndsAs MAX_MOVES Stuck two_writers_script run → (run ≡ []) ⊎ ((run ≡ first_move) ⊎ (run ≡ both_moves))
    → text_of two_writers_script run None ≡ two_writers_journal
unfolding conflicts
stuck_so run e (inl is) = absurd (false≢true (subst (EndsAs MAX_MOVES Stuck two_writers_script) is e).0)
stuck_so run e (inr (inl is)) = absurd (false≢true (subst (EndsAs MAX_MOVES Stuck two_writers_script) is e).0)
stuck_so run e (inr (inr is)) = ap (λ (r : List Logged). text_of two_writers_script r None) is ∙ two_writers_text

never_done : (run : List Logged) → EndsAs MAX_MOVES Done two_writers_script run → (run ≡ []) ⊎ ((run ≡ first_move) ⊎ (run ≡ both_moves)) → ⊥
unfolding conflicts
never_done run e (inl is) = false≢true (subst (EndsAs MAX_MOVES Done two_writers_script) is e).0
never_done run e (inr (inl is)) = false≢true (subst (EndsAs MAX_MOVES Done two_writers_script) is e).0
never_done run e (inr (inr is)) = false≢true (sym (subst (EndsAs MAX_MOVES Done two_writers_script) is e).1)

never_cut : (node : ℕ) (run : List Logged) → EndsAs MAX_MOVES (Cut node) two_writers_script run
    → (run ≡ []) ⊎ ((run ≡ first_move) ⊎ (run ≡ both_moves)) → ⊥
unfolding conflicts
never_cut node run e (inl is) = not_none (subst (EndsAs MAX_MOVES (Cut node) two_writers_script) is e)
  where
    not_none : None ≡ Some node → ⊥
    not_none f = cc
never_cut node run e (inr (inl is)) = not_none (subst (EndsAs MAX_MOVES (Cut node) two_writers_script) is e)
  where
    not_none : None ≡ Some node → ⊥
    not_none f = cc
never_cut node run e (inr (inr is)) = not_none (subst (EndsAs MAX_MOVES (Cut node) two_writers_script) is e)
  where
    not_none : None ≡ Some node → ⊥
    not_none f = cc

pub two_writers_say : TwoWriters
two_writers_say = record {
  stuck = λ run old new t.
      let ran = ran_first MAX_MOVES Stuck run t.0 t.1 in
      t.2 ∙ ap (λ (text : List ℕ). old ++ text) (ran.journal ∙ stuck_so run ran.ends ran.which);
  never_done = λ run old new t. let ran = ran_first MAX_MOVES Done run t.0 t.1 in never_done run ran.ends ran.which;
  never_cut = λ node run old new t. let ran = ran_first MAX_MOVES (Cut node) run t.0 t.1 in never_cut node run ran.ends ran.which;
}

-- with one move a node is full after the first
cut_so : (node : ℕ) (run : List Logged) → EndsAs 1 (Cut node) two_writers_script run → (run ≡ []) ⊎ ((run ≡ first_move) ⊎ (run ≡ both_moves))
    → (node ≡ 0) × (run ≡ first_move)
unfolding conflicts
cut_so node run e (inl is) = absurd (not_none (subst (EndsAs 1 (Cut node) two_writers_script) is e))
  where
    not_none : None ≡ Some node → ⊥
    not_none f = cc
cut_so node run e (inr (inl is)) = (sym (same (subst (EndsAs 1 (Cut node) two_writers_script) is e)), is)
  where
    same : Some 0 ≡ Some node → 0 ≡ node
    same f = cc
cut_so node run e (inr (inr is)) = absurd (not_none (subst (EndsAs 1 (Cut node) two_writers_script) is e))
  where
    not_none : None ≡ Some node → ⊥
    not_none f = cc

pub cut_short_says : CutShort
cut_short_says = record {
  cut = λ run old new t.
      let ran = ran_first 1 (Cut 0) run t.0 t.1 in
      let so = cut_so 0 run ran.ends ran.which in
      t.2 ∙ ap (λ (text : List ℕ). old ++ text) (ran.journal ∙ (ap (λ (r : List Logged). text_of two_writers_script r (Some 0)) so.1 ∙ cut_text));
  never_elsewhere = λ node other run old new t.
      let ran = ran_first 1 (Cut node) run t.0 t.1 in
      omega (arith, other, (cut_so node run ran.ends ran.which).0);
}
