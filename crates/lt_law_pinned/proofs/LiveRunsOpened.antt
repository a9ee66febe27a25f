-- Each field of what is said of a live run, of its replies and of its journal.
use Rattle.std.proofs.Common.{◌≡◌, ◌≢◌, ◌<◌, ◌++◌, ℕ, List, Option, Some, None, refl, sym, ap, subst, arith, ◌∙◌, length, take, ltb-false}
use Rattle.std.specs.Io.KnownBytes.{Appends}
use Rattle.std.proofs.lemmas.Bool.{false≢true}
use Rattle.lt_modes.specs.Script.{ScriptData}
use Rattle.lt_spec.specs.NodeMove.{commands_of}
use Rattle.lt_spec.specs.World.{Logged}
use Rattle.lt_script.specs.Reading.{read_of}
use Rattle.lt_spec.specs.declared.ending.Ending.{Ending}
use Rattle.lt_spec.specs.declared.ending.Ending.TheVariants as ending
use Rattle.lt_journal.specs.RunLines.{text_of}
use Rattle.lt_merge.specs.Merging.{AreRising}
use Rattle.lt_live.specs.declared.reply.Reply.{Reply}
use Rattle.lt_live_serve.specs.declared.status.Status.TheVariants.{Done, Stuck, WriteFault}
use Rattle.lt_live.specs.Stations.{equal_share}
use Rattle.lt_live_serve.specs.Serves.{Journals, all_replies}
use Rattle.lt_live_serve.specs.Status.{cut_node}
use Rattle.lt_law_pinned.specs.Told.{two_writers, two_writers_script, falling, crossed}
use Rattle.lt_law_pinned.specs.LiveCalls.{one_lock, one_lock_script, LiveRunsTold, LiveSharesTold}
use Rattle.lt_law_pinned.proofs.TwoWritersSay.{same_script}
use Rattle.lt_law_pinned.proofs.LimitsOpened.{writers_read}
use Rattle.lt_law_pinned.proofs.LiveCallsOpened.{did_so, did_read, live_so, one_lock_read, two_fit}

-- the journal of the two writers, of which no run is cut
text_so : (end : Ending) (run : List Logged) (polled : List (ℕ × Reply)) (text : List ℕ) → Journals end (Some two_writers) run polled text
    → text ≡ text_of two_writers_script run None
text_so end run polled text j =
    j.journal
    ∙ ap (text_of j.script run) (uncut end j.never_cut)
    ∙ ap (λ (s : ScriptData). text_of s run None) (same_script j.script two_writers_script (read_of two_writers) j.denoted writers_read)
  where
    uncut : (e : Ending) → ((node : ℕ) → e ≢ ending.Cut node) → cut_node e ≡ None
    uncut ending.Done never = refl
    uncut ending.Stuck never = refl
    uncut (ending.Cut node) never = absurd (never node refl)

-- known bytes that were appended
appended : (held after : Option (List ℕ)) (old new text : List ℕ) → held ≡ Some old → after ≡ Some new → Appends held after text → new ≡ old ++ text
appended held after old new text was is h =
    subst (λ (o : Option (List ℕ)). Appends (Some old) o text) is (subst (λ (o : Option (List ℕ)). Appends o after text) was h)

pub live_runs_told : LiveRunsTold
live_runs_told = record {
  done = λ c reads e.
      let did = did_read c two_writers Done reads e in
      let live = live_so ending.Done two_writers two_writers_script c.answer.run.entries c.answer.polled.items did.0 writers_read did.1 in
      record { is_run = live.ran.is_run; rest = live.ran.ends.0; waits = live.ran.ends.1; promised = live.promised };
  stuck = λ c reads e.
      let did = did_read c two_writers Stuck reads e in
      let live = live_so ending.Stuck two_writers two_writers_script c.answer.run.entries c.answer.polled.items did.0 writers_read did.1 in
      record { is_run = live.ran.is_run; rest = live.ran.ends.0; waits = live.ran.ends.1; promised = live.promised };
  some = λ c serves e.
      let j = (did_so c Stuck serves e).1 in (
        j.script,
        record {
          is_run = j.live.ran.is_run;
          promised = j.live.promised;
          few = j.live.ran.within;
          far = j.live.ran.far;
          shared = λ client below. ltb-false (equal_share j.script) (length (commands_of j.script client)) (j.shared client below);
        },
      );
  not_falling = λ c serves e is.
      let rising : AreRising falling = subst (λ (run : List Logged). AreRising run) is (did_so c Done serves e).1.live.ran.rising in
      false≢true rising.0.0;
  not_crossed = λ c serves e is.
      let rising : AreRising crossed = subst (λ (run : List Logged). AreRising run) is (did_so c Stuck serves e).1.live.ran.rising in
      false≢true rising.0.0;
  stuck_replies = λ c reads e is.
      let did = did_read c two_writers Stuck reads e in
      let live = live_so ending.Stuck two_writers two_writers_script c.answer.run.entries c.answer.polled.items did.0 writers_read did.1 in
      live.polled_is ∙ ap (all_replies two_writers_script) is;
  done_replies = λ c reads e is.
      let did = did_read c one_lock Done reads e in
      let live = live_so ending.Done one_lock one_lock_script c.answer.run.entries c.answer.polled.items did.0 one_lock_read did.1 in
      live.polled_is ∙ ap (all_replies one_lock_script) is;
  done_text = λ c old new reads e was is.
      let did = did_read c two_writers Done reads e in
      appended c.sink.held c.sink_after.held old new did.0 was is did.2
      ∙ ap (λ (text : List ℕ). old ++ text) (text_so ending.Done c.answer.run.entries c.answer.polled.items did.0 did.1);
  stuck_text = λ c old new reads e was is.
      let did = did_read c two_writers Stuck reads e in
      appended c.sink.held c.sink_after.held old new did.0 was is did.2
      ∙ ap (λ (text : List ℕ). old ++ text) (text_so ending.Stuck c.answer.run.entries c.answer.polled.items did.0 did.1);
  part = λ c old new reads e was is.
      let did = did_read c two_writers WriteFault reads e in
      let j = did.2 in
      let live = live_so did.0 two_writers two_writers_script c.answer.run.entries c.answer.polled.items did.1 writers_read j in
      let text = text_so did.0 c.answer.run.entries c.answer.polled.items did.1 j in
      record {
        is_run = live.ran.is_run;
        promised = live.promised;
        size = did.3.0;
        less = subst (λ (t : List ℕ). did.3.0 < length t) text did.3.1;
        text = appended c.sink.held c.sink_after.held old new (take did.3.0 did.1) was is did.3.2 ∙ ap (λ (t : List ℕ). old ++ take did.3.0 t) text;
      };
}

pub live_shares_told : LiveSharesTold
live_shares_told = record {
  first = (omega arith, refl, λ client below. absurd (omega (arith, below)));
  not_second = λ h. false≢true (sym (h.2 0 (omega arith)));
  not_third = λ h. false≢true h.1;
  not_none = λ h. false≢true (sym (h 0 (omega arith)));
  fits = two_fit;
}
