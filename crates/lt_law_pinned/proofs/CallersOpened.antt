-- Each field of what is said of callers that were served.
use Rattle.std.proofs.Common.{◌≡◌, ◌<◌, ◌∷◌, [], ℕ, zero, suc, List, Option, Some, None, refl, sym, ap, ap₂, subst, arith, ◌∙◌, ◌++◌, length, slice_get, codes}
use Rattle.std.proofs.lemmas.Bool.{false≢true}
use Rattle.std.proofs.lemmas.Option.{same_Some}
use mathlib.Core.List.{IsPrefix}
use Rattle.lt_modes.specs.declared.command.Command.{Command}
use Rattle.lt_modes.specs.declared.event.Event.TheVariants.{Grant, Unlock as Unlocked}
use Rattle.lt_modes.specs.declared.mode.Mode.TheVariants.{Write}
use Rattle.lt_modes.specs.declared.moves.Step.TheVariants.{Act}
use Rattle.lt_modes.specs.Modes.{conflicts}
use Rattle.lt_modes.specs.Script.{ScriptData}
use Rattle.lt_spec.specs.Holdings.{lines_of}
use Rattle.lt_spec.specs.NodeMove.{commands_of}
use Rattle.lt_spec.specs.World.{Logged}
use Rattle.lt_script.specs.Printing.{print_of}
use Rattle.lt_script.specs.Printing as printing
use Rattle.lt_journal.specs.declared.line.Line.{Line}
use Rattle.lt_journal.specs.declared.line.Line.TheVariants.{Move as MoveLine, Event as EventLine, Owner, End}
use Rattle.lt_journal.specs.RunLines.{run_lines, lines_text}
use Rattle.lt_live.specs.declared.ends.Session.{Session}
use Rattle.lt_live.specs.declared.reply.Reply.{Reply}
use Rattle.lt_live.specs.Seats.{IsServedSession, replies_in}
use Rattle.lt_live.specs.Words.{submitted, known_replies}
use Rattle.lt_live.proofs.SeatLists.{none_here}
use Rattle.lt_live_callers.specs.declared.served.Called.{Called}
use Rattle.lt_live_callers.specs.declared.served.Served.{Served}
use Rattle.lt_live_callers.specs.Desks.{StepOf, Heard}
use Rattle.lt_live_callers.specs.Refused.{MayCommand}
use Rattle.lt_live_callers.specs.Served.{IsServedBy, CallsAt}
use Rattle.lt_law_pinned.specs.LiveCalls.{one_lock, one_lock_script, two_moves}
use Rattle.lt_law_pinned.specs.CallerCalls.{CallersTextsAre, CallersEndsTold, CallerTold, CallersTold}
use Rattle.lt_law_pinned.proofs.Numbers.{zero_text, one_text, two_text}

printed : print_of one_lock_script ≡ one_lock
unfolding printing.print_of
printed = rw zero_text (rw one_text refl)

abbrev journal_lines : List Line
journal_lines =
    MoveLine 1 0 (Act 0) ∷ EventLine (Grant 0 0 Write) ∷ MoveLine 2 0 (Act 0) ∷ EventLine (Unlocked 0 0 Write) ∷
    Owner 0 0 0 ∷ End 2 ∷ []

lines_are : run_lines one_lock_script two_moves None ≡ journal_lines
unfolding conflicts
lines_are = refl

spelled : lines_text one_lock_script journal_lines
    ≡ codes "move 1 0 act a\ngrant a s write\nmove 2 0 act a\nunlock a s write\nowner s 0 0\nend 2\n"
spelled = rw zero_text (rw one_text (rw two_text refl))

pub callers_texts_are : CallersTextsAre
callers_texts_are = record {
  count = refl;
  limit = refl;
  no_memory = refl;
  journal =
      ap₂ (λ (script text : List ℕ). script ++ codes "journal\n" ++ text) printed
      (ap (lines_text one_lock_script) lines_are ∙ spelled);
}

pub callers_ends_told : CallersEndsTold
unfolding conflicts
callers_ends_told = record {
  done_waits = λ h. false≢true (sym h.1);
  stuck_idle = λ h. false≢true h.1;
  done_early = λ h. false≢true h.0;
  stuck_early = λ h. false≢true h.0;
  unfinished_at_rest = λ h. false≢true h.1;
  unfinished_second = λ h. false≢true (sym (h.2 0 (omega arith)));
}

-- the session at a place
some_at : (sessions : List Session) (k : ℕ) → k < length sessions → (s : Session) × (slice_get sessions k ≡ Some s)
some_at [] k below = absurd (omega (arith, below))
some_at (s ∷ rest) zero below = (s, refl)
some_at (s ∷ rest) (suc k) below = some_at rest k (omega (arith, below))

-- where a caller was told nothing its session knew no reply
silent_at : {C : Type 0} (first last : Session) (steps : List (StepOf C)) → Heard first steps last
    → (k : ℕ) (step : StepOf C) → slice_get steps k ≡ Some step → step.reply ≡ None → known_replies step.session ≡ []
silent_at first last [] heard k step here none = none_here k step here
silent_at {C = C} first last (s ∷ rest) heard zero step here none =
    let is = same_Some s step here in
    subst (λ (x : StepOf C). x.reply ≡ None → known_replies x.session ≡ []) is heard.1.none none
silent_at first last (s ∷ rest) heard (suc k) step here none = silent_at s.later last rest heard.2 k step here none

module _ {C : Type 0} (goes : C → Option Reply → Option Command → C → Type 0) where
  -- the caller at this place, with its session
  at_place : (first script : ScriptData) (run : List Logged) (client : ℕ) (s : Session)
      (caller : C) (place : Option (Called C)) → IsServedSession (commands_of script client) (lines_of run) client s
      → commands_of script client ≡ submitted s → CallsAt goes (Some caller) s place
      → ((called : Called C) → place ≡ Some called → (command : Command) → called.refused ≡ Some command → ¬ MayCommand first client s command)
      → (after : Called C) × (place ≡ Some after) × CallerTold goes first script run client caller after
  at_place first script run client s caller None served all calls barred = absurd calls
  at_place first script run client s caller (Some after) served all calls barred = (
    after,
    refl,
    record {
      steps = calls.steps;
      went = calls.went;
      told =
          subst (λ (replies : List Reply). IsPrefix replies (replies_in client (lines_of run))) calls.told
          served.replies;
      silent = silent_at calls.first s calls.steps calls.heard;
      given = submitted s;
      asked = calls.asked;
      all = all;
      refused = λ command is few names. barred after refl command is (record { left = few; names = names });
    },
  )

  each_told : (first : ScriptData) (callers : List C) (served : Served C) → (h : IsServedBy goes first callers served)
      → (client : ℕ) (caller : C) → client < length first.clients
      → (s : Session) → slice_get h.sessions client ≡ Some s → slice_get callers client ≡ Some caller
      → (after : Called C) × (slice_get served.callers.items client ≡ Some after)
      × CallerTold goes first served.script served.run.entries client caller after
  each_told first callers served h client caller below s here is =
      let after = slice_get served.callers.items client in
      at_place first served.script served.run.entries client s caller after (h.serves.each client s here) (h.all client s here)
      (subst (λ (place : Option C). CallsAt goes place s after) is (h.each client s here))
      (λ called there. h.refused client s called here there)

  pub callers_told : CallersTold goes
  callers_told = record {
    is_script = λ first callers served h. h.serves.is_script;
    few_commands = λ first callers served h. h.few_commands;
    same = λ first callers served h. h.serves.same;
    is_run = λ first callers served h. h.serves.is_run;
    rising = λ first callers served h. h.serves.rising;
    ends = λ first callers served h. h.ends;
    each = λ first callers served h client caller below is.
        let session = some_at h.sessions client (omega (arith, below, h.count)) in
        each_told first callers served h client caller below session.0 session.1 is;
  }
