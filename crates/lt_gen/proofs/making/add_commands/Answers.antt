use Rattle.std.proofs.Common.{◌≡◌, ◌∙◌, ℕ, ap, sym, subst, arith, ◌++◌, ◌%◌, map, length, mod-lt}
use Rattle.std.proofs.lemmas.List.Elements.{All-from_recursion}
use Rattle.lt_modes.specs.Script.{ScriptData}
use Rattle.lt_modes.specs.declared.command.Command.{Command}
use Rattle.lt_spec.specs.Script.{IsOfVersion}
use Rattle.lt_gen.specs.Generator.{group_of, group_commands, requests_of, requests_in, Making}
use Rattle.lt_gen.proofs.GroupLemmas.{group_modes}
use Rattle.lt_gen.proofs.MadeScript.{drawn_targets}
use Rattle.lt_gen.proofs.Generated.{next_turn, all_made, still_counted, fewer_turns}
use Rattle.lt_gen.proofs.making.add_commands.Goals as goal

pub add_turn-requires-clause-requests : goal.add_turn-requires-clause-requests
add_turn-requires-clause-requests c =
    rw (c.loop-left.invariant.others, c.requires.sets, c.requires.clients, c.deref.ensures.value, c.in_ok-made.ensures)
    (All-from_recursion _ (group_commands c.drawn-group.result) (drawn_targets c.args.sizes _ c.drawn-group.result (rw c.from.ensures (mod-lt c.loop-left.turn c.requires.some_client)) c.drawn-group.ensures.beside c.drawn-group.ensures.set))

pub add_turn-requires-clause-modes : goal.add_turn-requires-clause-modes
add_turn-requires-clause-modes c =
    rw (c.loop-left.invariant.others, c.requires.version, c.deref.ensures.value, c.in_ok-made.ensures)
    (All-from_recursion (IsOfVersion c.args.sizes.version) (group_commands c.drawn-group.result) (group_modes c.args.sizes.version c.drawn-group.result c.drawn-group.ensures.version))

pub loop-left-preserved : goal.loop-left-preserved
loop-left-preserved c =
    let client = c.loop-left.turn % c.from.result in
    let group = c.drawn-group.result in
    let added : c.add_turn.new.script ≡ record c.loop-left.script { commands = c.loop-left.script.commands ++ requests_of client group } =
    c.in_ok-add_turn.ensures
    ∙ ap (λ commands. record c.loop-left.script { commands = c.loop-left.script.commands ++ map (λ (command : Command). (client, command)) commands }) (c.deref.ensures.value ∙ c.in_ok-made.ensures)
    in
    let size : c.len.result ≡ length (group_commands group) = c.len.ensures ∙ sym c.deref.ensures.len ∙ ap length (c.deref.ensures.value ∙ c.in_ok-made.ensures) in
    let drawn = subst (λ (clients : ℕ). (group, c.drawn-group.new.draws) ≡ group_of c.args.sizes (c.loop-left.turn % clients) c.loop-left.left c.loop-left.draws) c.from.ensures c.drawn-group.ensures.value in
    let few = c.drawn-group.ensures.few c.loop-left-test.true in
    record {
      others = rw added (ap (λ (s : ScriptData). record s { commands = c.loop-left.script.commands ++ requests_of client group }) c.loop-left.invariant.others);
      count = rw (added, size) (still_counted client c.loop-left.left c.args.commands group c.loop-left.script.commands c.loop-left.invariant.count few);
      turns = rw size (fewer_turns c.loop-left.turn c.loop-left.left c.args.commands group c.loop-left.invariant.turns few);
      parts = rw (added, size, c.from.ensures) (next_turn c.args.sizes c.loop-left.left c.loop-left.turn c.loop-left.draws (group, c.drawn-group.new.draws) c.loop-left.script.commands _ drawn c.loop-left-test.true c.loop-left.invariant.parts);
    }

pub returns : goal.returns
returns c =
    let whole = requests_in c.args.commands c.args.sizes c.args.commands 0 c.args.draws in
    let done : Making c.args.sizes 0 c.loop-left.turn c.loop-left.draws c.loop-left.script.commands whole = subst (λ left. Making c.args.sizes left c.loop-left.turn c.loop-left.draws c.loop-left.script.commands whole) (omega (arith, c.loop-left-test.false)) c.loop-left.invariant.parts in
    c.loop-left.invariant.others ∙ ap (λ commands. record c.args.script.now { commands = commands }) (all_made c.args.sizes c.loop-left.turn c.loop-left.draws c.loop-left.script.commands whole done)
