use Rattle.std.proofs.Common.{◌∙◌, ap, refl, sym}
use Rattle.lt_modes.specs.declared.stamp.Stamp.{Stamp}
use Rattle.lt_node.specs.NodeData.{NodeData}
use Rattle.lt_node.specs.Sets.{core_in}
use Rattle.lt_node.proofs.NodeLemmas.{node_is}
use Rattle.lt_node.proofs.NodeSets.{node_of_sets, set_inside, sets_moved}
use Rattle.lt_node.proofs.TokenLemmas.{CanTake, IsTakenBy, can_take_here, take_does, taken_by}
use Rattle.lt_node.proofs.node.Node.take.Goals as goal

taken : (c : goal.After-take-arg-2-1) → IsTakenBy c.args.self.now c.args.letter
taken c = taken_by c.args.self.now c.args.letter (node_is _ c.args.self.now c.self.view_is c.self.invariant.0) c.requires.fits c.requires.within

can : (c : goal.After-take-arg-2-1) → CanTake c.stamp_of_take-stamp.result (core_in c.self.inside.sets c.args.letter.set) c.args.letter c.args.out.now
can c =
    can_take_here _ c.args.self.now c.self.inside.sets c.args.letter c.args.out.now c.stamp_of_take-stamp.result c.self.view_is c.self.invariant.0 refl c.self.invariant.2 (taken c) c.requires.room c.stamp_of_take-stamp.ensures

pub take-requires-clause-set : goal.take-requires-clause-set
take-requires-clause-set c = set_inside _ c.args.self.now c.self.inside.sets c.args.letter.set c.self.view_is c.self.invariant.2 (taken c).set

pub take-requires-clause-node : goal.take-requires-clause-node
take-requires-clause-node c =
    ap (λ (s : Stamp). s.node) c.stamp_of_take-stamp.ensures ∙ sym (ap (λ (n : NodeData). n.me) c.self.view_is) ∙ sym c.self.invariant.2.node

pub take-requires-clause-room : goal.take-requires-clause-room
take-requires-clause-room c = (can c).room

pub take-requires-clause-desk : goal.take-requires-clause-desk
take-requires-clause-desk c = (can c).desk

pub take-requires-clause-fits : goal.take-requires-clause-fits
take-requires-clause-fits c = (can c).fits

pub invariant_of-self : goal.invariant_of-self
invariant_of-self c =
    let fit = taken_by c.args.self.now c.args.letter (node_is _ c.args.self.now c.self.view_is c.self.invariant.0) c.requires.fits c.requires.within in
    let inside = set_inside _ c.args.self.now c.self.inside.sets c.args.letter.set c.self.view_is c.self.invariant.2 fit.set in
    let moved = sets_moved c.self.inside.script.whole c.self.inside.me c.args.letter.set _ c.self.inside.sets c.take.new.self c.args.out.now c.take.new.out c.self.invariant.2 c.take.ensures.does inside in (
      node_of_sets _ c.stamp_of_take-stamp.result.clock c.take.new.self c.self.invariant.0 moved,
      c.self.invariant.1,
      moved,
      c.self.invariant.3,
    )

pub returns : goal.returns
returns c =
    let fit = taken_by c.args.self.now c.args.letter (node_is _ c.args.self.now c.self.view_is c.self.invariant.0) c.requires.fits c.requires.within in
    let inside = set_inside _ c.args.self.now c.self.inside.sets c.args.letter.set c.self.view_is c.self.invariant.2 fit.set in record {
      does = take_does _ c.args.self.now c.self.inside.sets c.take.new.self c.args.letter c.stamp_of_take-stamp.result c.args.out.now c.take.new.out c.self.view_is refl c.self.invariant.2 inside
          c.stamp_of_take-stamp.ensures c.take.ensures.does;
    }
