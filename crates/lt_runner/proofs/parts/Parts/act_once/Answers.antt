-- The client's command is made, or none can act.
use Rattle.std.proofs.Common.{◌∙◌, sym, arith, true≢false}
use Rattle.lt_runner.proofs.KeptLemmas.{kept_resting}
use Rattle.lt_runner.proofs.TurnLemmas.{grew_self, grew_resting, could_act_now}
use Rattle.lt_runner.proofs.parts.Parts.act_once.Goals as goal

pub choose-requires : goal.choose-requires
choose-requires g c = c.requires

pub make_found-requires : goal.make_found-requires
make_found-requires g c =
    let shown = sym c.choose.ensures ∙ c.in-Act.is in
    (c.type_bounds.sync-G, (c.requires, (shown, could_act_now c.args.self.now c.in-Act.client (omega arith) shown)))

pub returns-then-self-ne0-clause-kept : goal.returns-then-self-ne0-clause-kept
returns-then-self-ne0-clause-kept g c = c.requires

pub returns-then-self-ne0-clause-grew : goal.returns-then-self-ne0-clause-grew
returns-then-self-ne0-clause-grew g c = grew_self c.args.self.now

pub returns-in-Nothing-clause-kept : goal.returns-in-Nothing-clause-kept
returns-in-Nothing-clause-kept g c = kept_resting c.args.self.now c.requires (sym c.choose.ensures ∙ c.in-Nothing.is)

pub returns-in-Nothing-clause-grew : goal.returns-in-Nothing-clause-grew
returns-in-Nothing-clause-grew g c = grew_resting c.args.self.now

pub returns-in-Nothing-clause-moved : goal.returns-in-Nothing-clause-moved
returns-in-Nothing-clause-moved g c = λ told. absurd (true≢false (sym told))

pub returns-in-Act-clause-kept : goal.returns-in-Act-clause-kept
returns-in-Act-clause-kept g c = c.make_found.ensures.kept

pub returns-in-Act-clause-grew : goal.returns-in-Act-clause-grew
returns-in-Act-clause-grew g c = c.make_found.ensures.grew

pub returns-in-Act-clause-moved : goal.returns-in-Act-clause-moved
returns-in-Act-clause-moved g c = c.make_found.ensures.moved

pub returns-in_default-clause-kept : goal.returns-in_default-clause-kept
returns-in_default-clause-kept g c = c.requires

pub returns-in_default-clause-grew : goal.returns-in_default-clause-grew
returns-in_default-clause-grew g c = grew_self c.args.self.now

pub returns-in_default-clause-moved : goal.returns-in_default-clause-moved
returns-in_default-clause-moved g c = λ told. absurd (true≢false (sym told))

pub returns-in_default-2-clause-kept : goal.returns-in_default-2-clause-kept
returns-in_default-2-clause-kept g c = c.requires

pub returns-in_default-2-clause-grew : goal.returns-in_default-2-clause-grew
returns-in_default-2-clause-grew g c = grew_self c.args.self.now

pub returns-in_default-2-clause-moved : goal.returns-in_default-2-clause-moved
returns-in_default-2-clause-moved g c = λ told. absurd (true≢false (sym told))
