use Rattle.std.proofs.Common.{◌≡◌, ◌∙◌, ap, sym}
use Rattle.std.proofs.lemmas.Bool.{eq-eqb, ne_eqb}
use Rattle.lt_modes.specs.Modes.{Modes, has, bars, covers}
use Rattle.lt_modes.specs.State.{others}
use Rattle.lt_desk.specs.Sights.{sight_state, desk_of}
use Rattle.lt_desk.proofs.TurnLemmas.{later_barred, later_others, local_is, remote_is, void_is}
use Rattle.lt_desk.proofs.sight.Sight.turn.Goals as goal

pub returns-then-has : goal.returns-then-has
returns-then-has c before is =
    let sight = c.args.self.now in
    later_barred sight.me (sight_state sight) (desk_of sight) before c.args.k c.args.ask.now c.args.barred is (sym c.has.ensures ∙ c.if-has.true)
    (sym c.is_void.ensures ∙ c.if-is_void.false)

pub returns-then-has-2 : goal.returns-then-has-2
returns-then-has-2 c before is =
    let sight = c.args.self.now in
    let ask = c.args.ask.now in
    let met : c.has-2.result ≡ has ask.mode (bars (others sight.me (sight_state sight) (desk_of sight) ask.node)) =
    c.has-2.ensures ∙ ap (λ (m : Modes). has ask.mode m) (c.bars.ensures ∙ ap bars c.others_with-others.ensures) in
    later_others sight.me (sight_state sight) (desk_of sight) before c.args.k ask (sym met ∙ c.if-has-2.true) (sym c.is_void.ensures ∙ c.if-is_void.false)

pub returns-then-ask-self : goal.returns-then-ask-self
returns-then-ask-self c before is =
    let sight = c.args.self.now in
    let ask = c.args.ask.now in
    let met : c.has-2.result ≡ has ask.mode (bars (others sight.me (sight_state sight) (desk_of sight) ask.node)) =
    c.has-2.ensures ∙ ap (λ (m : Modes). has ask.mode m) (c.bars.ensures ∙ ap bars c.others_with-others.ensures) in
    c.local_turn.ensures
    ∙ local_is sight.me (sight_state sight) (desk_of sight) before c.args.k ask c.args.barred c.is_clear_here.result is
    (sym c.has.ensures ∙ c.if-has.false) (sym met ∙ c.if-has-2.false) (eq-eqb ask.node sight.me c.if-ask-self.true) c.is_clear_here.ensures
    (sym c.is_void.ensures ∙ c.if-is_void.false)

pub returns-else-ask-self : goal.returns-else-ask-self
returns-else-ask-self c before is =
    let sight = c.args.self.now in
    let ask = c.args.ask.now in
    let met : c.has-2.result ≡ has ask.mode (bars (others sight.me (sight_state sight) (desk_of sight) ask.node)) =
    c.has-2.ensures ∙ ap (λ (m : Modes). has ask.mode m) (c.bars.ensures ∙ ap bars c.others_with-others.ensures) in
    let covered = c.covers.ensures ∙ ap (λ (m : Modes). covers m ask.mode) c.others_with-others.ensures in
    c.remote_turn.ensures
    ∙ remote_is sight.me (sight_state sight) (desk_of sight) before c.args.k ask c.args.barred c.covers.result c.is_clear_at_home.result is
    (sym c.has.ensures ∙ c.if-has.false) (sym met ∙ c.if-has-2.false) (ne_eqb ask.node sight.me c.if-ask-self.false) covered c.is_clear_at_home.ensures
    (sym c.is_void.ensures ∙ c.if-is_void.false)

pub returns-then-is_void : goal.returns-then-is_void
returns-then-is_void c before is =
    let sight = c.args.self.now in
    void_is sight.me (sight_state sight) (desk_of sight) before c.args.k c.args.ask.now (sym c.is_void.ensures ∙ c.if-is_void.true)
