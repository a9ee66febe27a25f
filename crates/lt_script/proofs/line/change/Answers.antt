use Rattle.std.proofs.Common.{◌≡◌, ◌∙◌, ℕ, None, Some, IsTrue, length, refl, sym, ap, subst}
use Rattle.std.proofs.lemmas.Bool.{lt-leb}
use Rattle.lt_modes.specs.FiveModes.{is_of_version}
use Rattle.lt_spec.specs.declared.limits.TheConstants.{MAX_COMMANDS}
use Rattle.lt_script.specs.Faults.{mode_in}
use Rattle.lt_script.proofs.line.change.Goals as goal

pub returns-in_default : goal.returns-in_default
returns-in_default c =
    let found = c.in_ok-set.ensures in
    let few = lt-leb MAX_COMMANDS (length c.args.script.now.commands) found.2 in
    let none : mode_in c.args.script.now.version c.args.mode.now ≡ None = ap (λ (v : ℕ). mode_in v c.args.mode.now) (sym c.version.ensures.version) ∙ sym c.mode_in.ensures.mode ∙ c.in_default.is in
    rw (c.requires.client, found.0, few, found.3, none) refl

pub returns : goal.returns
returns c =
    let found = c.in_ok-set.ensures in
    let few = lt-leb MAX_COMMANDS (length c.args.script.now.commands) found.2 in
    let mode : mode_in c.args.script.now.version c.args.mode.now ≡ Some c.in-Some.mode = ap (λ (v : ℕ). mode_in v c.args.mode.now) (sym c.version.ensures.version) ∙ sym c.mode_in.ensures.mode ∙ c.in-Some.is in
    let own = subst (λ (v : ℕ). IsTrue (is_of_version v c.in-Some.mode)) c.version.ensures.version c.in-Some.ensures.own.1 in (
      rw (c.requires.client, found.0, few, found.3, mode) refl,
      rw (c.requires.client, found.0, found.4, c.in-Some.ensures.own.0) refl,
      found.2,
      (c.requires.inside, found.1),
      (found.5, own),
    )
