-- Callers that were asked whether they are done.
use Rattle.std.proofs.Common.{◌≡◌, ◌<◌, ◌≤◌, ◌+◌, ℕ, Bool, List, length, map, Option, Some, sym, ap, subst, ◌∙◌, arith, inl, inr, slice_get}
use Rattle.std.proofs.lemmas.Bool.{cases_eq}
use Rattle.std.proofs.lemmas.Option.{slice_get_within}
use Rattle.lt_modes.specs.declared.command.Command.{Command}
use Rattle.lt_live.specs.declared.reply.Reply.{Reply}
use Rattle.lt_live.proofs.SeatLists.{alike_before, alike_weaker}
use Rattle.lt_live_callers.specs.declared.desk.Desk.{Desk}
use Rattle.lt_live_callers.specs.declared.served.Called.{Called}
use Rattle.lt_live_callers.specs.Desks.{DesksGoOn, DeskGoesOn, IsAsked, called_of}
use Rattle.lt_live_callers.specs.Over.{NeedsNoStep, AreOver, HaveSaid}
use Rattle.lt_live_callers.specs.Places.{Each, OneAt}
use Rattle.lt_live_callers.proofs.Places.{mapped_at}
use Rattle.lt_live_callers.proofs.Steps.{asked_stays}

module _ {C : Type 0} where
  -- each of the first n callers is over
  abbrev pub FirstOver : ℕ → List (Desk C) → Type 0
  FirstOver n desks = (k : ℕ) (d : Desk C) → k < n → slice_get desks k ≡ Some d → NeedsNoStep (called_of d)

  pub none_over : (desks : List (Desk C)) → FirstOver 0 desks
  none_over desks k d below here = absurd (omega (arith, below))

  -- and so is the one after them
  pub more_over : (says : C → Bool → Type 0) (n : ℕ) (old new : List (Desk C)) → OneAt (IsAsked says) n old new
      → ((d : Desk C) → slice_get new n ≡ Some d → NeedsNoStep (called_of d)) → FirstOver n old → FirstOver (n + 1) new
  more_over says n old new at one first k d below here = elim (cases_eq k n) [
    | inl is ↦ one d (ap (slice_get new) (sym is) ∙ here)
    | inr apart ↦ first k d (omega (arith, below, apart)) (sym (at.others k apart) ∙ here)
  ]

  pub all_are_over : (n : ℕ) (desks : List (Desk C)) → length desks ≤ n → FirstOver n desks → AreOver (map called_of desks)
  all_are_over n desks long first client called here =
      let (d, there, is) = mapped_at called_of desks client called here in
      let inside = slice_get_within desks client d there in
      subst (λ (x : Called C). NeedsNoStep x) is (first client d (omega (arith, inside, long)) there)

  pub all_said : (says : C → Bool → Type 0) (old new : List (Desk C)) → Each (IsAsked says) old new → HaveSaid says (map called_of new)
  all_said says old new asked client called here =
      let (d, there, is) = mapped_at called_of new client called here in
      let (was, before, one) = alike_before (IsAsked says) old new asked client d there in
      subst (λ (x : Called C). says x.caller x.done) is one.said

  pub asked_go : (goes : C → Option Reply → Option Command → C → Type 0) (says : C → Bool → Type 0) (old new : List (Desk C)) → Each (IsAsked says) old new
      → DesksGoOn goes 0 old new
  asked_go goes says old new asked = alike_weaker (IsAsked says) (DeskGoesOn goes 0) (λ a b h. asked_stays goes says a b h) old new asked
