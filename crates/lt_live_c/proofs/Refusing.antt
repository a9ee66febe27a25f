-- What a code says of a command: that it was submitted, or why not.
use Rattle.std.proofs.Common.{◌≡◌, ◌<◌, ◌≤◌, ◌+◌, ◌++◌, ◌∷◌, [], Bool, true, false, Option, Some, inl, inr, refl, sym, subst, arith, length, ◌∙◌}
use Rattle.std.proofs.lemmas.Bool.{false≢true}
use Rattle.lt_modes.specs.declared.command.Command.{Command}
use Rattle.lt_spec.specs.Script.{HasTargets, IsOfVersion}
use Rattle.lt_live.specs.declared.ends.Session.{Session}
use Rattle.lt_live.specs.Words.{submitted, polled, known_replies, places}
use Rattle.lt_live_c.specs.declared.code.TheConstants.{OK, BAD_ARGUMENT, SPENT, FULL}
use Rattle.lt_live_c.specs.Calls.{MaySubmit, MayNot, free_places, Submits}

bad_argument : (s : Session) (command : Option Command) → MayNot command s → Submits BAD_ARGUMENT command s s
bad_argument s command not = record {
  replies = (refl, refl);
  ok = λ e. absurd (omega (arith, e));
  none = λ other. (refl, refl);
  bad_argument = λ e. not;
  barred = λ again. refl;
  spent = λ e. absurd (omega (arith, e));
  full = λ e. absurd (omega (arith, e));
  place = λ free e. omega (arith, e);
  only = inr (inl refl);
}

-- a test that is passed by all that may be submitted failed
pub may_not : (s : Session) (o : Option Command) (command : Command) (passes : Bool) → o ≡ Some command → passes ≡ false
    → (HasTargets s.script.sets s.script.clients s.client command → IsOfVersion s.script.version command → passes ≡ true)
    → Submits BAD_ARGUMENT o s s
may_not s o command passes is fails all =
    bad_argument s o (subst (λ (x : Option Command). MayNot x s) (sym is) (λ may. false≢true (sym fails ∙ all may.0 may.1)))

pub spent : (s : Session) (o : Option Command) (command : Command) → o ≡ Some command → MaySubmit s command
    → s.left ≡ 0 → Submits SPENT o s s
spent s o command is may none_left = subst (λ (x : Option Command). Submits SPENT x s s) (sym is) (record {
  replies = (refl, refl);
  ok = λ e. absurd (omega (arith, e));
  none = λ other. (refl, refl);
  bad_argument = λ e. absurd (omega (arith, e));
  barred = λ not. absurd (not may);
  spent = λ e. none_left;
  full = λ e. absurd (omega (arith, e));
  place = λ free e. omega (arith, e);
  only = inr (inr (inl refl));
})

-- the session before the call and after it, which has the same replies
module _ (s t : Session) (o : Option Command) (command : Command) (is : o ≡ Some command) (replies : (polled t ≡ polled s) × (known_replies t ≡ known_replies s)) where
  pub was_submitted : MaySubmit s command → (submitted t ≡ submitted s ++ command ∷ []) × (t.left + 1 ≡ s.left)
      → Submits OK o s t
  was_submitted may next = subst (λ (x : Option Command). Submits OK x s t) (sym is) (record {
    replies = replies;
    ok = λ e. record { may = may; next = next.0; left = next.1 };
    none = λ other. absurd (other refl);
    bad_argument = λ e. absurd (omega (arith, e));
    barred = λ not. absurd (not may);
    spent = λ e. absurd (omega (arith, e));
    full = λ e. absurd (omega (arith, e));
    place = λ free e. omega (arith, e);
    only = inl refl;
  })

  pub full : MaySubmit s command → (submitted t ≡ submitted s) × (t.left ≡ s.left) → (places s ≤ length (submitted s)) × (free_places t ≡ 0)
      → (0 < free_places s → false ≡ true) → Submits FULL o s t
  full may none used no_place = subst (λ (x : Option Command). Submits FULL x s t) (sym is) (record {
    replies = replies;
    ok = λ e. absurd (omega (arith, e));
    none = λ other. none;
    bad_argument = λ e. absurd (omega (arith, e));
    barred = λ not. absurd (not may);
    spent = λ e. absurd (omega (arith, e));
    full = λ e. used;
    place = λ free e. false≢true (no_place free);
    only = inr (inr (inr refl));
  })
