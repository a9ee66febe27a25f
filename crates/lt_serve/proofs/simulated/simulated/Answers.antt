use Rattle.lt_serve.proofs.simulated.simulated.Goals as goal

pub returns-in-Ok-clause-does : goal.returns-in-Ok-clause-does
returns-in-Ok-clause-does g c = record {
  journals = record {
    script = c.in_ok-script.script;
    denoted = c.in_ok-script.ensures.script;
    ran = c.in-Ok.ensures.ran;
    journal = c.in-Ok.ensures.text;
  };
  in_order = c.in-Ok.ensures.in_order;
  in_time = c.in-Ok.ensures.in_time;
}
