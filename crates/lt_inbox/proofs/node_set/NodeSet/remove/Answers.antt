use Rattle.std.proofs.Common.{◌≡◌, ◌<◌, ◌∙◌, Bool, true, false, List, length, slice_set, arith, sym, ap}
use Rattle.lt_inbox.specs.Mail.{has_from}
use Rattle.lt_inbox.proofs.Sets.{marks_length, mark_is, some_are_marked, bits_less, one_mark, set_again}
use Rattle.lt_inbox.proofs.node_set.NodeSet.remove.Goals as goal

pub returns-then-not-has_bit-clause-set : goal.returns-then-not-has_bit-clause-set
returns-then-not-has_bit-clause-set c =
    let inside = c.self.inside in
    sym c.self.view_is
    ∙ (set_again inside.words inside.nodes inside.len c.args.node false c.self.invariant (sym c.has_bit.ensures ∙ c.if-not-has_bit.true)
    ∙ ap (λ (marks : List Bool). slice_set marks c.args.node false) c.self.view_is)

pub returns-then-not-has_bit-clause-removed : goal.returns-then-not-has_bit-clause-removed
returns-then-not-has_bit-clause-removed c =
    let inside = c.self.inside in
    let had : has_from c.args.self.now c.args.node ≡ false =
    sym (ap (λ (marks : List Bool). has_from marks c.args.node) c.self.view_is)
    ∙ (mark_is inside.words inside.nodes inside.len c.args.node c.self.invariant ∙ (sym c.has_bit.ensures ∙ c.if-not-has_bit.true)) in
    sym had

pub overflow_sub-self : goal.overflow_sub-self
overflow_sub-self c =
    let inside = c.self.inside in
    let within : c.args.node < inside.nodes = omega (arith, c.requires, ap length c.self.view_is, marks_length inside.nodes inside.words) in
    some_are_marked inside.words inside.nodes inside.len c.args.node c.self.invariant within (sym c.has_bit.ensures ∙ c.if-not-has_bit.false)

pub invariant_of-self : goal.invariant_of-self
invariant_of-self c =
    let inside = c.self.inside in
    let within : c.args.node < inside.nodes = omega (arith, c.requires, ap length c.self.view_is, marks_length inside.nodes inside.words) in
    bits_less inside.words c.clear_bit.new.words inside.nodes inside.len c.args.node c.self.invariant within (sym c.has_bit.ensures ∙ c.if-not-has_bit.false)
    c.clear_bit.ensures.own c.clear_bit.ensures.others

pub returns-clause-set : goal.returns-clause-set
returns-clause-set c =
    let inside = c.self.inside in
    let within : c.args.node < inside.nodes = omega (arith, c.requires, ap length c.self.view_is, marks_length inside.nodes inside.words) in
    one_mark inside.nodes inside.words c.clear_bit.new.words c.args.node false within c.clear_bit.ensures.own c.clear_bit.ensures.others
    ∙ ap (λ (marks : List Bool). slice_set marks c.args.node false) c.self.view_is

pub returns-clause-removed : goal.returns-clause-removed
returns-clause-removed c =
    let inside = c.self.inside in
    let had : has_from c.args.self.now c.args.node ≡ true =
    sym (ap (λ (marks : List Bool). has_from marks c.args.node) c.self.view_is)
    ∙ (mark_is inside.words inside.nodes inside.len c.args.node c.self.invariant ∙ (sym c.has_bit.ensures ∙ c.if-not-has_bit.false)) in
    sym had
