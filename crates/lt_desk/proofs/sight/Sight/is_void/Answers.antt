use Rattle.std.proofs.Common.{◌≡◌, ◌∙◌, Bool, ◌&&◌, ap, sym}
use Rattle.std.proofs.lemmas.Bool.{eq-eqb}
use Rattle.lt_modes.specs.Serving.{is_gone}
use Rattle.lt_desk.specs.Sights.{sight_state}
use Rattle.lt_desk.proofs.sight.Sight.is_void.Goals as goal

pub returns-then-ask-self : goal.returns-then-ask-self
returns-then-ask-self c =
    let sight = c.args.self.now in
    let ask = c.args.ask.now in
    c.is_gone.ensures
    ∙ ap (λ (own : Bool). own && is_gone (sight_state sight) ask.client) (sym (eq-eqb ask.node sight.me c.if-ask-self.true))
