use Rattle.lt_model.proofs.rule_laws.law_account_rules.Goals as goal
use Rattle.lt_model.proofs.AccountRules.{serves_by_rule, services_are_steps, copies_are_delivered, tells_are_applied, tells_are_made, handing_over_settles, tokens_arrive, freezes_are_steps, others_change_nothing, rules_count}
use Rattle.lt_model.proofs.NewsRules.{grants_by_rule, frozen_is_not_granted, commands_are_steps}

pub returns : goal.returns
returns c = record {
  grants = grants_by_rule;
  frozen = frozen_is_not_granted;
  commands = commands_are_steps;
  serves = serves_by_rule;
  services = services_are_steps;
  delivers = copies_are_delivered;
  applies = tells_are_applied;
  tells = tells_are_made;
  settles = handing_over_settles;
  arrives = tokens_arrive;
  freezes = freezes_are_steps;
  nothing = others_change_nothing;
  counts = rules_count;
}
