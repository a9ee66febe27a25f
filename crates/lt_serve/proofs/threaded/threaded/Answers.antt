use Rattle.lt_serve.proofs.threaded.threaded.Goals as goal

pub returns-in-Ok-clause-does : goal.returns-in-Ok-clause-does
returns-in-Ok-clause-does g c = record {
  journals = record {
    script = c.in_ok-script.script;
    denoted = c.in_ok-script.ensures.script;
    ran = c.in-Ok.ensures.ran;
    journal = c.in-Ok.ensures.text;
  };
  rising = c.in-Ok.ensures.rising;
  far = c.in-Ok.ensures.far;
}
