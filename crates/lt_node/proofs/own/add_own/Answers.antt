use Rattle.std.proofs.Common.{◌∙◌, ◌+◌, List, ℕ, arith, subst, sym}
use Rattle.lt_node.specs.Clients.{AreOwn}
use Rattle.lt_node.proofs.OwnLemmas.{own_more, own_passed}
use Rattle.lt_node.proofs.own.add_own.Goals as goal

pub returns-then-home-node : goal.returns-then-home-node
returns-then-home-node c =
    own_passed c.args.script.now.clients c.args.node 0 c.args.client c.args.own.now.items c.requires.own (λ same. c.if-home-node.true (c.home.ensures ∙ same))

pub returns : goal.returns
returns c =
    subst (λ (own : List ℕ). AreOwn c.args.script.now.clients c.args.node 0 (c.args.client + 1) own) (sym c.in_ok-push.ensures.items)
    (own_more c.args.script.now.clients c.args.node 0 c.args.client c.args.own.now.items c.requires.own (omega arith) (sym c.home.ensures ∙ c.if-home-node.false))
