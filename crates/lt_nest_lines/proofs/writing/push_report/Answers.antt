use Rattle.std.proofs.Common.{◌≡◌, ◌++◌, ◌∙◌, List, All, length, ap, sym, subst, arith}
use Rattle.std.proofs.lemmas.List.{length-replicate}
use Rattle.std.proofs.lemmas.Result.{on_ok_weaker}
use Rattle.lt_nest.specs.Locks.{no_set}
use Rattle.lt_nest_lines.specs.declared.order.Order.{Order}
use Rattle.lt_nest_lines.specs.Input.{InputData, AsksWithin}
use Rattle.lt_nest_lines.specs.Play.{PlayState}
use Rattle.lt_nest_lines.specs.Written.{closing_text}
use Rattle.lt_nest_lines.proofs.Pieces.{report_joined}
use Rattle.lt_nest_lines.proofs.writing.push_report.Goals as goal

pub follow_all-requires-clause-within : goal.follow_all-requires-clause-within
follow_all-requires-clause-within c =
    let d : InputData = c.args.input.now in
    let p : PlayState = c.in_ok-play.play in
    let sets : length p.nest.sets ≡ length d.sets = ap (λ (q : PlayState). length q.nest.sets) c.in_ok-play.ensures ∙ length-replicate c.sets.result no_set ∙ c.sets.ensures.sets in
    subst (λ (orders : List Order). All (AsksWithin (length p.nest.sets)) orders) (sym c.orders.ensures.orders)
    (subst (λ n. All (AsksWithin n) d.orders) (sym sets) c.orders.ensures.kept.within)

pub follow_all-requires-clause-few : goal.follow_all-requires-clause-few
follow_all-requires-clause-few c = omega (arith, c.orders.ensures.kept.few_lines, ap length c.orders.ensures.orders)

pub follow_all-requires-clause-asked : goal.follow_all-requires-clause-asked
follow_all-requires-clause-asked c = ap (λ (q : PlayState). q.nest.asked) c.in_ok-play.ensures

pub follow_all-requires-clause-begun : goal.follow_all-requires-clause-begun
follow_all-requires-clause-begun c = ap (λ (q : PlayState). q.nest.transactions) c.in_ok-play.ensures

pub push_closing-requires : goal.push_closing-requires
push_closing-requires c =
    c.in_ok-follow_all.ensures.sets
    ∙ ap (λ (q : PlayState). length q.nest.sets) c.in_ok-play.ensures
    ∙ length-replicate c.sets.result no_set
    ∙ c.sets.ensures.sets

pub returns : goal.returns
returns c =
    on_ok_weaker {P = c.push_closing.new.out.items ≡ c.follow_all.new.out.items ++ closing_text c.args.input.now c.follow_all.new.play} c.push_closing.result (λ told.
    report_joined c.args.input.now c.args.out.now.items c.follow_all.new.out.items c.push_closing.new.out.items c.in_ok-play.play c.follow_all.new.play c.orders.result.now c.sets.result
    c.in_ok-play.ensures c.sets.ensures.sets c.orders.ensures.orders c.in_ok-follow_all.ensures.text c.in_ok-follow_all.ensures.state told)
    c.push_closing.ensures
