use Rattle.std.proofs.Common.{rules, ◌≡◌, ◌∙◌, ◌++◌, Some, ap, slice_get}
use Rattle.lt_nest.specs.Calls.{NestState}
use Rattle.lt_nest_lines.specs.Play.{grants_text}
use Rattle.lt_nest_lines.proofs.Pieces.{grant_told}
use Rattle.lt_nest_lines.proofs.play.push_grants.Invariants.{without_grants}
use Rattle.lt_nest_lines.proofs.play.push_grants.Goals as goal

pub loop-x-preserved : goal.loop-x-preserved
loop-x-preserved c =
    let first : slice_get c.loop-x.nest.grants 0 ≡ Some (c.in-Some.x, c.in-Some.set, c.in-Some.mode) = search rules in
    record {
      nest = ap without_grants c.in-Some.ensures.state ∙ c.loop-x.invariant.nest;
      text = ap (λ (st : NestState). c.push_grant.new.out.items ++ grants_text c.args.input.now c.args.numbers.now st.grants) c.in-Some.ensures.state
          ∙ grant_told c.args.input.now c.args.numbers.now c.loop-x.nest.grants (c.in-Some.x, c.in-Some.set, c.in-Some.mode)
          c.loop-x.out.items c.push_grant.new.out.items c.args.out.now.items
          (grants_text c.args.input.now c.args.numbers.now c.args.nest.now.grants) first c.in_ok-push_grant.ensures c.loop-x.invariant.text;
    }
