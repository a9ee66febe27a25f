-- Each field of what is said of how the calls end.
use Rattle.std.proofs.Common.{◌≡◌, ◌≢◌, ℕ, List, Option, Some, None, refl, sym, subst}
use Rattle.std.proofs.lemmas.Bool.{false≢true}
use Rattle.lt_modes.specs.Script.{ScriptData}
use Rattle.lt_call.specs.Scripts.{DenotesOrdered}
use Rattle.lt_words.specs.declared.command.Command.TheVariants.{Soak}
use Rattle.lt_spec.specs.declared.ending.Ending.TheVariants as ending
use Rattle.lt_serve.specs.declared.status.Status.{Status}
use Rattle.lt_serve.specs.declared.status.Status.TheVariants.{NoMemory}
use Rattle.lt_serve.specs.Serves.{GoesWell}
use Rattle.lt_live_serve.specs.declared.status.Status.TheVariants as live
use Rattle.lt_script.specs.Reading.{read_of}
use Rattle.lt_live_serve.specs.Serves.{IsFirstOver, IsOverShare}
use Rattle.lt_law_pinned.specs.EndCalls.{OrderEnds, LiveOrderEnds, DenoteOrdered}
use Rattle.lt_law_pinned.specs.OtherAnswers.{fresh_source}
use Rattle.lt_law_pinned.proofs.TwoWritersSay.{same_script}
use Rattle.lt_law_pinned.proofs.CheckAnswers.{goes_well}
use Rattle.lt_law_pinned.proofs.LiveCallsOpened.{goes_well as live_goes_well, did_read, live_so}

denotes : (left : Option (List ℕ)) (bytes : List ℕ) (script : ScriptData) → left ≡ Some bytes
    → DenoteOrdered bytes script → DenotesOrdered left
denotes left bytes script is so = subst DenotesOrdered (sym is) (script, so.read, so.ordered)

-- nothing goes wrong with what isn't read
soak_well : (seed : ℕ) (answer : Status) → answer ≢ NoMemory
    → GoesWell (Some (Soak seed)) answer (fresh_source None) (fresh_source None) 0 0
soak_well seed answer there =
    goes_well (Soak seed) answer (fresh_source None) (fresh_source None) (λ reads. absurd (false≢true reads)) there

pub order_ends : OrderEnds
order_ends = record {
  first_never = λ bytes script so h. h.stuck refl (script, so.read, so.ordered);
  drawn_never = λ seed bytes script so h. h.stuck refl (script, so.read, so.ordered);
  threads_never = λ bytes script so h. h.stuck refl (script, so.read, so.ordered);
  first_done = λ bytes script answer before after w v is so well ends.
      ends.ordered well (denotes before.left bytes script is so);
  drawn_done = λ seed bytes script answer before after w v is so well ends.
      ends.ordered well (denotes before.left bytes script is so);
  threads_done = λ bytes script answer before after w v is so well ends.
      ends.ordered well (denotes before.left bytes script is so);
  soak_never = λ seed left ordered h. h.stuck refl ordered;
  soak_rests = λ seed answer ends there. ends.done_or_stuck (soak_well seed answer there);
  soak_done = λ seed answer ordered ends there. ends.ordered (soak_well seed answer there) ordered;
  never_cut = λ asked answer before after w v node ends. ends.never_cut node;
}

pub live_order_ends : LiveOrderEnds
live_order_ends = record {
  never = λ c bytes script reads so e.
      let did = did_read c bytes live.Stuck reads e in
      let live = live_so ending.Stuck bytes script c.answer.run.entries c.answer.polled.items did.0 so.read did.1 in
      live.ordered so.ordered refl;
  done = λ c bytes script reads fine so none.
      reads.serves.ends.ordered
      (live_goes_well c bytes script (record { read = so.read; fit = none }) reads fine)
      (denotes c.source.left bytes script reads.input so);
  share = λ c bytes script client reads read e.
      let over = subst (λ (left : Option (List ℕ)). IsOverShare left client) reads.input (reads.serves.share client e) in
      subst (λ (s : ScriptData). IsFirstOver s (Some client))
      (same_script over.0 script (read_of bytes) over.1 read) over.2;
}
