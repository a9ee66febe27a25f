use Rattle.std.proofs.Common.{◌≡◌, ◌∙◌, ap, arith, rules, List, Option, None, replicate, length}
use Rattle.std.proofs.lemmas.List.{get_or-replicate, length-replicate}
use Rattle.lt_modes.specs.declared.parts.Link.{Link}
use Rattle.lt_spec.specs.Holdings.{Holding}
use Rattle.lt_tally.specs.LockTable.{waited_for, owner_at}
use Rattle.lt_tally.proofs.tally.Tally.new.Goals as goal

pub returns : goal.returns
returns c =
    let first : Link = record { node = 0; epoch = 0 } in
    let clients = c.from.ensures ∙ c.clients.ensures.clients in
    let sets = c.sets.ensures in
    let waiting : c.in_ok-vec.field-0.items ≡ replicate c.from.result None = c.in_ok-vec.ensures.items_if_clones_equal (λ y h. search rules) in
    let owners : c.in_ok-vec-2.field-0.items ≡ replicate c.sets.result first = c.in_ok-vec-2.ensures.items_if_clones_equal (λ _ same. same) in
    record {
      held = c.in_ok-new.ensures;
      waiting = record {
        room = ap (λ (all : List (Option Holding)). length all) waiting ∙ length-replicate c.from.result None ∙ clients;
        each = λ client inside.
            ap (λ (all : List (Option Holding)). waited_for all client) waiting
            ∙ get_or-replicate c.from.result client None None (omega (arith, clients));
      };
      owners = record {
        room = ap (λ (all : List Link). length all) owners ∙ length-replicate c.sets.result first ∙ sets;
        each = λ set inside.
            ap (λ (all : List Link). owner_at all set) owners
            ∙ get_or-replicate c.sets.result set first first (omega (arith, sets));
      };
    }
