use Rattle.std.proofs.Common.{◌≡◌, ◌∙◌, ◌+◌, ◌≤◌, ◌<◌, ap, subst, sym}
use Rattle.lt_modes.specs.Modes.{locks_in}
use Rattle.lt_modes.specs.Serving.{answer_event}
use Rattle.lt_modes.specs.SetMove.{answers}
use Rattle.lt_modes.specs.State.{SetState}
use Rattle.lt_held.specs.HeldData.{most_locks}
use Rattle.lt_desk.specs.DeskData.{out_after}
use Rattle.lt_core.specs.CoreData.{CoreData, room_by}
use Rattle.lt_core.specs.Steps.{grant_ask}
use Rattle.lt_core.proofs.CommandLemmas.{room_for_line, line_sent, room_by_more}
use Rattle.lt_core.proofs.StepLemmas.{row_left}
use Rattle.lt_core.proofs.StateSeen.{state_of}
use Rattle.lt_core.proofs.one_set.Core.grant.Goals as goal

pub give-requires-clause-spare : goal.give-requires-clause-spare
give-requires-clause-spare c =
    row_left c.self.inside.desk c.self.inside.held.spare (subst (λ (k : CoreData). 0 < k.room) (sym c.self.view_is) c.requires.room)

pub give-requires-clause-locks : goal.give-requires-clause-locks
give-requires-clause-locks c = subst (λ (k : CoreData). locks_in k.state.held + 1 ≤ most_locks) (sym c.self.view_is) c.requires.locks

pub push_event-requires : goal.push_event-requires
push_event-requires c =
    let core = c.args.self.now in
    room_for_line (answer_event core.set c.args.ask.now) (grant_ask core.set c.args.ask.now core.state).state c.args.out.now c.requires.fits

pub returns-clause-does : goal.returns-clause-does
returns-clause-does c =
    let before = c.self.inside in
    let out = c.args.out.now in
    let ask = c.args.ask.now in
    let s : SetState = state_of before in
    let after = (grant_ask before.set ask s).state in
    let held : record s { held = c.give.new.held.rows; pending = c.forget.new.self } ≡ after = λ i. record s { held = c.give.ensures.rows i; pending = c.forget.ensures i } in
    record {
      node = ap (λ (k : CoreData). k.node) c.self.view_is;
      set = ap (λ (k : CoreData). k.set) c.self.view_is;
      state = held ∙ ap (λ (k : CoreData). (grant_ask k.set ask k.state).state) c.self.view_is;
      sent = line_sent c.answer_event.result after out c.push_event.new.self c.push_event.ensures ∙ (λ i. out_after (answers (c.answer_event.ensures i) after) out)
          ∙ ap (λ (k : CoreData). out_after (grant_ask k.set ask k.state) out) c.self.view_is;
    }

pub returns-clause-room : goal.returns-clause-room
returns-clause-room c =
    let before = c.self.inside in (
      subst (λ (k : CoreData). k.room ≤ room_by before.desk c.give.new.held.spare + 1) c.self.view_is (room_by_more before.desk 1 before.held.spare c.give.new.held.spare c.give.ensures.spare),
      ap (λ (k : CoreData). k.parked_room) c.self.view_is,
    )

pub returns-clause-tells : goal.returns-clause-tells
returns-clause-tells c = ap (λ (k : CoreData). k.tell_room) c.self.view_is

pub returns-clause-locks : goal.returns-clause-locks
returns-clause-locks c = subst (λ (k : CoreData). locks_in c.give.new.held.rows ≤ locks_in k.state.held + 1) c.self.view_is c.give.ensures.total
