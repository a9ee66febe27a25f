use Rattle.std.proofs.Common.{◌≡◌, ◌<◌, ◌∙◌, Bool, true, false, not, List, length, slice_set, arith, sym, ap}
use Rattle.lt_inbox.specs.Mail.{has_from}
use Rattle.lt_inbox.proofs.Sets.{marks_length, mark_is, room_for_more, bits_more, one_mark, set_again}
use Rattle.lt_inbox.proofs.node_set.NodeSet.insert.Goals as goal

pub returns-then-has_bit-clause-set : goal.returns-then-has_bit-clause-set
returns-then-has_bit-clause-set c =
    let inside = c.self.inside in
    sym c.self.view_is
    ∙ (set_again inside.words inside.nodes inside.len c.args.node true c.self.invariant (sym c.has_bit.ensures ∙ c.if-has_bit.true)
    ∙ ap (λ (marks : List Bool). slice_set marks c.args.node true) c.self.view_is)

pub returns-then-has_bit-clause-added : goal.returns-then-has_bit-clause-added
returns-then-has_bit-clause-added c =
    let inside = c.self.inside in
    let had : has_from c.args.self.now c.args.node ≡ true =
    sym (ap (λ (marks : List Bool). has_from marks c.args.node) c.self.view_is)
    ∙ (mark_is inside.words inside.nodes inside.len c.args.node c.self.invariant ∙ (sym c.has_bit.ensures ∙ c.if-has_bit.true)) in
    sym (ap not had)

pub overflow_add-self : goal.overflow_add-self
overflow_add-self c =
    let inside = c.self.inside in
    let within : c.args.node < inside.nodes = omega (arith, c.requires, ap length c.self.view_is, marks_length inside.nodes inside.words) in
    omega (arith, room_for_more inside.words inside.nodes inside.len c.args.node c.self.invariant within (sym c.has_bit.ensures ∙ c.if-has_bit.false))

pub invariant_of-self : goal.invariant_of-self
invariant_of-self c =
    let inside = c.self.inside in
    let within : c.args.node < inside.nodes = omega (arith, c.requires, ap length c.self.view_is, marks_length inside.nodes inside.words) in
    bits_more inside.words c.set_bit.new.words inside.nodes inside.len c.args.node c.self.invariant within (sym c.has_bit.ensures ∙ c.if-has_bit.false)
    c.set_bit.ensures.own c.set_bit.ensures.others

pub returns-clause-set : goal.returns-clause-set
returns-clause-set c =
    let inside = c.self.inside in
    let within : c.args.node < inside.nodes = omega (arith, c.requires, ap length c.self.view_is, marks_length inside.nodes inside.words) in
    one_mark inside.nodes inside.words c.set_bit.new.words c.args.node true within c.set_bit.ensures.own c.set_bit.ensures.others
    ∙ ap (λ (marks : List Bool). slice_set marks c.args.node true) c.self.view_is

pub returns-clause-added : goal.returns-clause-added
returns-clause-added c =
    let inside = c.self.inside in
    let had : has_from c.args.self.now c.args.node ≡ false =
    sym (ap (λ (marks : List Bool). has_from marks c.args.node) c.self.view_is)
    ∙ (mark_is inside.words inside.nodes inside.len c.args.node c.self.invariant ∙ (sym c.has_bit.ensures ∙ c.if-has_bit.false)) in
    sym (ap not had)
