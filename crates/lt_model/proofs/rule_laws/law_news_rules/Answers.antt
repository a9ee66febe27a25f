use Rattle.lt_model.proofs.rule_laws.law_news_rules.Goals as goal
use Rattle.lt_model.proofs.NewsRules.{freezing_is_steps, freezes_are_taken, desks_come_and_go}

pub returns : goal.returns
returns c = record { freezes = freezing_is_steps; takes = freezes_are_taken; desk = desks_come_and_go }
