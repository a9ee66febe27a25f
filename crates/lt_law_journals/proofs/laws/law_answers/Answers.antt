use Rattle.lt_law_journals.proofs.Answers.{accepted_input, refused_input}
use Rattle.lt_law_journals.proofs.laws.law_answers.Goals as goal

pub returns-clause-accepted : goal.returns-clause-accepted
returns-clause-accepted c = accepted_input

pub returns-clause-refused : goal.returns-clause-refused
returns-clause-refused c = refused_input
