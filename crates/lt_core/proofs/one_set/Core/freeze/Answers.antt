use Rattle.std.proofs.Common.{◌≡◌, ◌∙◌, Some, ap, sym, subst, refl, rules}
use Rattle.lt_modes.specs.State.{SetState, Desk, Made}
use Rattle.lt_modes.specs.Freezing.{map_from, freeze, frozen_by, frozen_entry, number_after}
use Rattle.lt_desk.specs.DeskData.{DeskData, told_nodes, bits_from, FitsOut}
use Rattle.lt_core.specs.CoreData.{CoreData, Does, room_by}
use Rattle.lt_core.proofs.NoticeLemmas.{freeze_fits, freeze_sent, freeze_draws}
use Rattle.lt_core.proofs.StateSeen.{core_of, state_of}
use Rattle.lt_core.proofs.one_set.Core.freeze.Goals as goal

pub send_notices-requires-clause-fits : goal.send_notices-requires-clause-fits
send_notices-requires-clause-fits c =
    let before = c.self.inside in
    let stamp = c.args.stamp in
    let targets = c.freeze-targets.result in
    let desk : Desk = c.in-Some.desk.desk in
    let s : SetState = state_of before in
    let here : s.desk ≡ Some desk = search rules in
    let made = c.freeze-targets.ensures.made before.set stamp s refl here in
    let left = c.freeze-targets.ensures.desk in
    let told : bits_from c.nodes-nodes.result 0 targets.nodes ≡ told_nodes stamp.node desk =
    ap (λ n. bits_from n 0 targets.nodes) c.nodes-nodes.ensures.nodes ∙ sym c.freeze-targets.ensures.order in
    freeze_fits before.set stamp s (Some c.freeze-targets.new.self.desk) desk targets.modes targets.number (told_nodes stamp.node desk) (bits_from c.nodes-nodes.result 0 targets.nodes) c.args.out.now made told
    (subst (λ (core : CoreData). FitsOut (freeze core.set stamp core.state) c.args.out.now) (sym c.self.view_is) c.requires.fits)

pub returns-clause-does : goal.returns-clause-does
returns-clause-does c =
    let before = c.self.inside in
    let stamp = c.args.stamp in
    let targets = c.freeze-targets.result in
    let desk : Desk = c.in-Some.desk.desk in
    let s : SetState = state_of before in
    let here : s.desk ≡ Some desk = search rules in
    let made = c.freeze-targets.ensures.made before.set stamp s refl here in
    let left = c.freeze-targets.ensures.desk in
    let told : bits_from c.nodes-nodes.result 0 targets.nodes ≡ told_nodes stamp.node desk =
    ap (λ n. bits_from n 0 targets.nodes) c.nodes-nodes.ensures.nodes ∙ sym c.freeze-targets.ensures.order in
    let after : c.freeze-targets.new.self.desk ≡ _ = ap (λ (d : DeskData). d.desk) left in
    let number : targets.number ≡ number_after (told_nodes stamp.node desk) desk.number = c.freeze-targets.ensures.number ∙ ap (λ (d : DeskData). d.desk.number) left in
    let modes : targets.modes ≡ frozen_by desk.queue = c.freeze-targets.ensures.modes in
    let core : CoreData = record (core_of before) {
      state = record s { frozen = targets.modes; number = targets.number; desk = Some c.freeze-targets.new.self.desk };
      room = room_by (Some c.freeze-targets.new.self) before.held.spare;
    } in
    subst (λ (old : CoreData). Does (freeze old.set stamp old.state) old c.args.out.now core c.send_notices.new.out) c.self.view_is
    (record {
      node = refl;
      set = refl;
      state = (λ i. record s { frozen = targets.modes; number = targets.number; desk = Some (after i) })
          ∙ (λ i. record s { frozen = targets.modes; number = targets.number; desk = Some (record desk { number = sym number i; entries = map_from (frozen_entry stamp.node (sym modes i)) 0 desk.entries }) })
          ∙ sym (ap (λ (m : Made). m.state) made);
      sent = freeze_sent before.set stamp s (Some c.freeze-targets.new.self.desk) desk targets.modes targets.number (told_nodes stamp.node desk) (bits_from c.nodes-nodes.result 0 targets.nodes) c.args.out.now c.send_notices.new.out made told c.send_notices.ensures;
    })

pub returns-clause-draw : goal.returns-clause-draw
returns-clause-draw c = freeze_draws c.args.stamp c.args.self.now _ c.args.out.now c.send_notices.new.out (returns-clause-does c)
