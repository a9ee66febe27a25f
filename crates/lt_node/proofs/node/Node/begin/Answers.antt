use Rattle.std.proofs.Common.{ap, refl, subst, sym, ◌∙◌}
use Rattle.lt_spec.specs.Script.{IsScript}
use Rattle.lt_modes.specs.Script.{ScriptData}
use Rattle.lt_node.specs.Forgetting.{LongScriptData}
use Rattle.lt_node.proofs.RequestLemmas.{clients_known, node_at_start, state_at_start, sets_at_start}
use Rattle.lt_node.proofs.node.Node.begin.Goals as goal

pub invariant_of-result : goal.invariant_of-result
invariant_of-result c =
    let clients = c.args.clients.items in
    let sets = c.in_ok-sets.sets in
    rw (c.of.ensures ∙ ap (λ (s : ScriptData). let l : LongScriptData = record { whole = s; gone = 0 } in l) c.in_ok-kept.ensures) (
      node_at_start c.args.script.now c.args.node clients sets c.requires.script c.requires.node c.requires.count c.in_ok-sets.ensures.sets,
      clients_known c.args.script.now c.args.node c.args.homes.items clients c.requires.homes c.requires.each,
      c.in_ok-sets.ensures.sets,
      c.in_ok-own.ensures,
    )

pub returns-clause-state : goal.returns-clause-state
returns-clause-state c = rw (c.of.ensures ∙ ap (λ (s : ScriptData). let l : LongScriptData = record { whole = s; gone = 0 } in l) c.in_ok-kept.ensures)
    (state_at_start c.args.script.now c.args.node c.args.clients.items c.in_ok-sets.sets.cores c.requires.each
    (sets_at_start c.args.script.now c.args.node c.in_ok-sets.sets c.in_ok-sets.ensures.sets c.in_ok-sets.ensures.first))

pub of-requires : goal.of-requires
of-requires c = subst IsScript (sym c.in_ok-kept.ensures) c.requires.script

pub returns-clause-script : goal.returns-clause-script
returns-clause-script c = ap (λ (s : LongScriptData). s.whole) c.of.ensures ∙ c.in_ok-kept.ensures

pub returns-clause-gone : goal.returns-clause-gone
returns-clause-gone c = ap (λ (s : LongScriptData). s.gone) c.of.ensures

pub returns-clause-me : goal.returns-clause-me
returns-clause-me c = refl
