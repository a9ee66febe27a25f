use Rattle.std.proofs.Common.{◌∙◌, ap, sym, Bool, ◌&&◌, not, if◌then◌else◌}
use Rattle.lt_modes.specs.Modes.{Modes, has, with_mode, modes_by, same_mode}
use Rattle.lt_modes.proofs.PlaceLemmas.{put_true, put_false}
use Rattle.lt_modes.proofs.mode_set.ModeSet.with_if.Goals as goal

pub returns-then-there : goal.returns-then-there
returns-then-there c =
    let s = c.args.self in
    c.with.ensures
    ∙ ap (λ (others : Modes). with_mode others c.args.mode) (c.without-others.ensures ∙ ap (λ (x : Modes). modes_by (λ m. has m s && not (has m x))) c.one.ensures)
    ∙ put_true s c.args.mode
    ∙ ap (λ (b : Bool). modes_by (λ m. if same_mode c.args.mode m then b else has m s)) (sym c.if-there.true)

pub returns-else-there : goal.returns-else-there
returns-else-there c =
    let s = c.args.self in
    c.without-others.ensures
    ∙ ap (λ (x : Modes). modes_by (λ m. has m s && not (has m x))) c.one.ensures
    ∙ put_false s c.args.mode
    ∙ ap (λ (b : Bool). modes_by (λ m. if same_mode c.args.mode m then b else has m s)) (sym c.if-there.false)
