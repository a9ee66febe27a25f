use Rattle.std.proofs.Common.{◌≡◌, ◌∙◌, ℕ, Bool, true, false, None, ap, if◌then◌else◌, subst, sym}
use Rattle.lt_modes.specs.SetMove.{ask_of, asked_or_not, given, granted}
use Rattle.lt_modes.specs.State.{Made, SetState}
use Rattle.lt_modes.specs.declared.event.Event.TheVariants as event
use Rattle.lt_modes.specs.declared.mode.Mode.{Mode}
use Rattle.lt_modes.specs.declared.stamp.Stamp.{Stamp}
use Rattle.lt_desk.specs.DeskData.{FitsOut, out_after}
use Rattle.lt_core.specs.CoreData.{CoreData, Does, told_to_wait}
use Rattle.lt_core.specs.declared.set_command.Answer.TheVariants.{Granted}
use Rattle.lt_core.proofs.CommandLemmas.{room_for_line, granted_is, line_sent}
use Rattle.lt_core.proofs.one_set.Core.lock.Goals as goal

abbrev by_grant : ℕ → Stamp → ℕ → Mode → SetState → Bool → Made
by_grant set stamp client mode s got = if got then granted set client mode s else asked_or_not set stamp (ask_of stamp client mode None s) s

pub ask_or_not-requires-clause-node : goal.ask_or_not-requires-clause-node
ask_or_not-requires-clause-node c = c.requires.node

pub ask_or_not-requires-clause-room : goal.ask_or_not-requires-clause-room
ask_or_not-requires-clause-room c = c.requires.room

pub ask_or_not-requires-clause-fits : goal.ask_or_not-requires-clause-fits
ask_or_not-requires-clause-fits c =
    let core = c.args.self.now in
    let stamp = c.args.stamp in
    let got = granted_is core stamp c.args.client c.args.mode c.can_grant.result false c.requires.node c.can_grant.ensures c.if-not-can_grant.true in
    subst (λ (made : Made). FitsOut made c.args.out.now) (ap (by_grant core.set stamp c.args.client c.args.mode core.state) got) c.requires.fits

pub returns-then-not-can_grant-clause-answer : goal.returns-then-not-can_grant-clause-answer
returns-then-not-can_grant-clause-answer c =
    let got = granted_is c.args.self.now c.args.stamp c.args.client c.args.mode c.can_grant.result false c.requires.node c.can_grant.ensures c.if-not-can_grant.true in
    c.ask_or_not.ensures.answer ∙ sym (ap (λ (b : Bool). if b then Granted else told_to_wait c.args.client c.args.mode None c.args.self.now.state) got)

pub returns-then-not-can_grant-clause-does : goal.returns-then-not-can_grant-clause-does
returns-then-not-can_grant-clause-does c =
    let core = c.args.self.now in
    let stamp = c.args.stamp in
    let got = granted_is core stamp c.args.client c.args.mode c.can_grant.result false c.requires.node c.can_grant.ensures c.if-not-can_grant.true in
    subst (λ (made : Made). Does made core c.args.out.now c.ask_or_not.new.self c.ask_or_not.new.out) (sym (ap (by_grant core.set stamp c.args.client c.args.mode core.state) got)) c.ask_or_not.ensures.does

pub returns-then-not-can_grant-clause-room : goal.returns-then-not-can_grant-clause-room
returns-then-not-can_grant-clause-room c = c.ask_or_not.ensures.room

pub gain-requires : goal.gain-requires
gain-requires c = record { room = c.requires.room.move }

pub push_event-requires : goal.push_event-requires
push_event-requires c =
    let core = c.args.self.now in
    let stamp = c.args.stamp in
    let got = granted_is core stamp c.args.client c.args.mode c.can_grant.result true c.requires.node c.can_grant.ensures c.if-not-can_grant.false in
    room_for_line (event.Grant c.args.client core.set c.args.mode) (given c.args.client c.args.mode None core.state) c.args.out.now
    (subst (λ (made : Made). FitsOut made c.args.out.now) (ap (by_grant core.set stamp c.args.client c.args.mode core.state) got) c.requires.fits)

pub returns-clause-answer : goal.returns-clause-answer
returns-clause-answer c =
    let got = granted_is c.args.self.now c.args.stamp c.args.client c.args.mode c.can_grant.result true c.requires.node c.can_grant.ensures c.if-not-can_grant.false in
    sym (ap (λ (b : Bool). if b then Granted else told_to_wait c.args.client c.args.mode None c.args.self.now.state) got)

pub returns-clause-does : goal.returns-clause-does
returns-clause-does c =
    let core = c.args.self.now in
    let stamp = c.args.stamp in
    let out = c.args.out.now in
    let got = granted_is core stamp c.args.client c.args.mode c.can_grant.result true c.requires.node c.can_grant.ensures c.if-not-can_grant.false in
    let set : c.self.inside.set ≡ core.set = ap (λ (x : CoreData). x.set) c.self.view_is ∙ c.gain.ensures.place.1 in
    let after = given c.args.client c.args.mode None core.state in
    subst (λ (made : Made). Does made core out c.gain.new.self c.push_event.new.self) (sym (ap (by_grant core.set stamp c.args.client c.args.mode core.state) got))
    (record {
      node = c.gain.ensures.place.0;
      set = c.gain.ensures.place.1;
      state = c.gain.ensures.state;
      sent = subst (λ set. c.push_event.new.self ≡ out_after (granted set c.args.client c.args.mode core.state) out) set
          (line_sent (event.Grant c.args.client c.self.inside.set c.args.mode) after out c.push_event.new.self c.push_event.ensures);
    })

pub returns-clause-room : goal.returns-clause-room
returns-clause-room c = c.gain.ensures.room
