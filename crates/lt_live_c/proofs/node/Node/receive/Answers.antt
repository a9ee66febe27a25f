-- All frames that are whole were taken in, or one was refused.
use Rattle.std.proofs.Common.{◌≡◌, ℕ, false, Option, Some, None, is_some, refl, sym, inl, inr, subst, ◌∙◌}
use Rattle.lt_live_c.specs.OwnNode.{OwnNode}
use Rattle.lt_live_c.specs.Nodes.{Receives, ReceivesLetters, ReceivesAll, ReceiveEnds}
use Rattle.lt_live_c.proofs.node.Node.receive.Goals as goal

none_there : (told : Option ℕ) → is_some told ≡ false → told ≡ None
none_there None e = refl
none_there (Some node) e = absurd (cc)

pub returns-in-Ok : goal.returns-in-Ok
returns-in-Ok c =
    let was : OwnNode = record { remote = c.self.inside.remote; sessions = c.self.inside.sessions.items; ready = c.self.inside.ready.items } in
    let now : OwnNode = record { remote = c.bring_in.new.self; sessions = c.self.inside.sessions.items; ready = c.self.inside.ready.items } in
    let fits = sym c.misfit.ensures ∙ none_there c.misfit.result (sym c.is_some.ensures ∙ c.if-is_some.false) in
    let takes : ReceivesLetters c.args.from c.in-Ok.size c.args.bytes.now was now = record { brings = c.in-Ok.ensures.brings; fits = fits; only = c.in-Ok.ensures.only; same = c.in-Ok.ensures.same; sessions = refl; ready = refl } in
    let all : ReceivesAll 0 c.args.from c.in-Ok.size c.args.bytes.now was now = record { code_is = refl; rest = c.in-Ok.ensures.stops } in
    subst (λ (n : OwnNode). Receives 0 c.args.from c.args.used.now c.in-Ok.size c.args.bytes.now n now) c.self.view_is (inr (takes, inl all))

pub returns : goal.returns
returns c =
    let was : OwnNode = record { remote = c.self.inside.remote; sessions = c.self.inside.sessions.items; ready = c.self.inside.ready.items } in
    let now : OwnNode = record { remote = c.bring_in.new.self; sessions = c.self.inside.sessions.items; ready = c.self.inside.ready.items } in
    let used = c.in-Err.refused.used in
    let code = c.number_of_fault.result in
    let fits = sym c.misfit.ensures ∙ none_there c.misfit.result (sym c.is_some.ensures ∙ c.if-is_some.false) in
    let takes : ReceivesLetters c.args.from used c.args.bytes.now was now = record { brings = c.in-Err.ensures.brings; fits = fits; only = c.in-Err.ensures.only; same = c.in-Err.ensures.same; sessions = refl; ready = refl } in
    let ends : ReceiveEnds code c.args.from used c.args.bytes.now was now = inr (c.in-Err.refused.fault, (c.number_of_fault.ensures, c.in-Err.ensures.stops)) in
    subst (λ (n : OwnNode). Receives code c.args.from c.args.used.now used c.args.bytes.now n now) c.self.view_is (inr (takes, ends))
