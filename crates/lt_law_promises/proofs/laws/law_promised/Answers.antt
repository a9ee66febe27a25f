use Rattle.lt_law_promises.proofs.laws.law_promised.Goals as goal

pub returns : goal.returns
returns c = λ script run whole is_run.
    let law = c.law_run.ensures in
    record {
      moments = λ k. record {
        lawful = law.lawful script run whole is_run k;
        held = law.held script run whole is_run k;
        one_token = law.one_token script run whole.some_node is_run k;
        one_place = λ s x ask. law.one_place script run whole.some_node is_run k s x ask;
        waits = law.waits script run whole is_run k;
        somebody = law.somebody script run whole is_run k;
        at_rest = λ rest. record {
          first = λ s ask within. law.first script run whole is_run k s ask within rest;
          led = λ s x ask within known. law.led script run whole is_run k s x ask within known rest;
          frozen = λ s x row within known. law.frozen script run whole is_run k s x row within known rest;
        };
      };
      tries = law.tries script run is_run;
      in_turn = law.in_turn script run is_run;
    }
