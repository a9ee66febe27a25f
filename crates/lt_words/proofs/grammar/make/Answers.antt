use Rattle.std.proofs.Common.{◌∙◌, ap, codes}
use Rattle.std.proofs.lemmas.Result.{IfOk-weaker}
use Rattle.clap.specs.Words.{App, with_rule}
use Rattle.lt_words.specs.Grammar.{needed, optional}
use Rattle.lt_words.specs.Apps.{AddsRule}
use Rattle.lt_words.proofs.grammar.make.Goals as goal

pub returns : goal.returns
returns c =
    let nodes = c.in_ok-with_nodes.ensures in
    let clients = c.in_ok-with_clients.ensures in
    let commands = c.in_ok-with_commands.ensures in
    let seed = c.in_ok-with_seed.ensures in
    let key = c.in_ok-with_key.ensures in
    let with_commands = commands.is ∙ ap (λ (a : App). with_rule a (needed (codes "commands"))) (
    clients.is ∙ ap (λ (a : App). with_rule a (needed (codes "clients"))) nodes.is
    ) in
    let with_key = key.is ∙ ap (λ (a : App). with_rule a (optional (codes "key"))) (
    seed.is ∙ ap (λ (a : App). with_rule a (needed (codes "seed"))) with_commands
    ) in
    IfOk-weaker c.add_optional-2.result (λ new. AddsRule c.in_ok-with_key.with_key new (optional (codes "version"))) _ (λ new version. record {
      is = version.is ∙ ap (λ (a : App). with_rule a (optional (codes "version"))) with_key;
      local = version.local (key.local (seed.local (commands.local (clients.local nodes.local))));
    }) c.add_optional-2.ensures
