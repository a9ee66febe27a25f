use Rattle.std.proofs.Common.{sym}
use Rattle.lt_checker.proofs.FirstLines.{client_parts}
use Rattle.lt_checker.proofs.moves.first_client.Goals as goal

pub returns-clause-parts : goal.returns-clause-parts
returns-clause-parts c =
    client_parts c.args.script.now c.args.bytes.now c.split_at.result.0.now c.split_at-2.result.1.now c.in_ok-size.size c.in_ok-client.client
    (sym c.in_ok-size.ensures) c.split_at.ensures.front c.split_at-2.ensures.back (sym c.in_ok-client.ensures.number)
