use Rattle.std.proofs.Common.{refl}
use Rattle.lt_node.proofs.ForgettingLemmas.{made_more, seen_more}
use Rattle.lt_node.proofs.client.Client.add.Goals as goal

pub invariant_of-self-2 : goal.invariant_of-self-2
invariant_of-self-2 c = made_more c.self.inside.past.items c.self.inside.gone c.self.inside.kept _ refl c.args.command c.in_ok-push.ensures.items c.self.invariant

pub returns : goal.returns
returns c =
    seen_more c.self.inside.past.items c.self.inside.gone c.self.inside.kept c.push.new.self.items c.args.command c.args.self.now c.self.view_is c.in_ok-push.ensures.items
