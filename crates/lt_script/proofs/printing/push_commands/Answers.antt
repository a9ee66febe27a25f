use Rattle.std.proofs.Common.{ℕ, refl, sym, subst}
use Rattle.std.specs.List.{All}
use Rattle.std.proofs.lemmas.List.Elements.{All-get_or}
use Rattle.lt_modes.specs.declared.command.Command.{Command}
use Rattle.lt_spec.specs.Script.{IsRequest}
use Rattle.lt_script.specs.Printing.{ended_line, command_words}
use Rattle.lt_script.proofs.PrintedSoFar.{printed_more, printed_all}
use Rattle.lt_script.proofs.printing.push_commands.Goals as goal

pub push_command-requires : goal.push_command-requires
push_command-requires c =
    let script = c.args.script.now in
    All-get_or (IsRequest script.sets script.clients) c.requests-request-items.result.now c.loop-request.request-index _ c.loop-request-test.true
    (subst (λ requests. All (IsRequest script.sets script.clients) requests) (sym c.requests-request-items.ensures.requests) c.requests-request-items.ensures.kept.requests)

pub loop-request-preserved : goal.loop-request-preserved
loop-request-preserved c =
    printed_more (λ (x : ℕ × Command). ended_line (command_words c.args.script.now x)) c.args.out.now.items c.loop-request.out.items c.push_command.new.out.items c.args.script.now.commands
    c.requests-request-items.result.now c.loop-request.request-index _ _ c.requests-request-items.ensures.requests c.loop-request-test.true
    refl c.loop-request.invariant c.in_ok-push_command.ensures

pub returns : goal.returns
returns c =
    printed_all (λ (x : ℕ × Command). ended_line (command_words c.args.script.now x)) c.args.out.now.items c.loop-request.out.items c.args.script.now.commands
    c.requests-request-items.result.now c.loop-request.request-index c.requests-request-items.ensures.requests c.loop-request-test.false c.loop-request.invariant
