use Rattle.lt_model.proofs.rule_laws.law_on_way.Goals as goal
use Rattle.lt_model.proofs.StandingBegins.{tells_are_on_way, copies_are_on_way, freezes_are_on_way}

pub returns : goal.returns
returns c = record { tells = tells_are_on_way; copies = copies_are_on_way; freezes = freezes_are_on_way }
