use Rattle.std.proofs.Common.{◌≡◌, ◌<◌, ◌∙◌, ap, length, arith, refl, Some, slice_get}
use lib.ListN.{get_or}
use Rattle.std.proofs.lemmas.Option.{slice_get_read}
use Rattle.lt_modes.specs.Script.{SetData, family_at, family_of_set}
use Rattle.lt_script.specs.Printing.{ended_line, set_words}
use Rattle.lt_script.proofs.PrintedSoFar.{printed_more, printed_all}
use Rattle.lt_script.proofs.printing.push_sets.Goals as goal

pub push_set-requires : goal.push_set-requires
push_set-requires c =
    let sets = c.args.script.now.sets in
    let declared = c.set_declarations-set-items.ensures.sets in
    let place = c.loop-set.set-index in
    let set = c.set-item.result in
    let inside : place < length sets = omega (arith, c.loop-set-test.true, ap length declared) in
    let there : slice_get sets place ≡ Some set =
    slice_get_read sets (length sets) place set refl inside (c.set-item.is ∙ ap (λ declared. get_or declared place set) declared) in
    let family : family_at sets place ≡ set.family = ap family_of_set there in
    omega (arith, inside, family, c.set_declarations-set-items.ensures.kept.families_not_later place inside)

pub loop-set-preserved : goal.loop-set-preserved
loop-set-preserved c =
    printed_more (λ (x : SetData). ended_line (set_words c.args.script.now.sets x)) c.args.out.now.items c.loop-set.out.items c.push_set.new.out.items c.args.script.now.sets
    c.set_declarations-set-items.result.now c.loop-set.set-index c.set-item.result c.set-item.result c.set_declarations-set-items.ensures.sets c.loop-set-test.true
    c.set-item.is c.loop-set.invariant c.in_ok-push_set.ensures

pub returns : goal.returns
returns c =
    printed_all (λ (x : SetData). ended_line (set_words c.args.script.now.sets x)) c.args.out.now.items c.loop-set.out.items c.args.script.now.sets
    c.set_declarations-set-items.result.now c.loop-set.set-index c.set_declarations-set-items.ensures.sets c.loop-set-test.false c.loop-set.invariant
