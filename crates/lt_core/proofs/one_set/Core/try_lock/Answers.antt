use Rattle.std.proofs.Common.{◌≡◌, ◌∙◌, ◌<◌, ◌++◌, [], ◌∷◌, ℕ, Bool, true, false, None, ap, if◌then◌else◌, length, refl, subst, sym}
use Rattle.lt_modes.specs.Granting.{can_grant}
use Rattle.lt_modes.specs.SetMove.{answers, given}
use Rattle.lt_modes.specs.State.{Made, SetState}
use Rattle.lt_modes.specs.declared.event.Event.TheVariants as event
use Rattle.lt_modes.specs.declared.mode.Mode.{Mode}
use Rattle.lt_desk.specs.DeskData.{OutData, FitsOut}
use Rattle.lt_core.specs.CoreData.{CoreData, Does}
use Rattle.lt_core.specs.declared.set_command.Answer.TheVariants.{True, False}
use Rattle.lt_core.proofs.CommandLemmas.{granted_is, line_sent, room_for_line}
use Rattle.lt_core.proofs.NoticeLemmas.{room_less}
use Rattle.lt_core.proofs.one_set.Core.try_lock.Goals as goal

abbrev by_grant : ℕ → ℕ → Mode → SetState → Bool → Made
by_grant set client mode s got = if got then answers (event.Try client set mode true) (given client mode None s) else answers (event.Try client set mode false) s

-- there is room for the line, whether the client gets the lock or not
line_fits : (set client : ℕ) (mode : Mode) (s : SetState) (out : OutData) (got : Bool) → FitsOut (by_grant set client mode s got) out → length out.events < out.event_room
line_fits set client mode s out true fits = room_for_line (event.Try client set mode true) (given client mode None s) out fits
line_fits set client mode s out false fits = room_for_line (event.Try client set mode false) s out fits

pub push_event-requires : goal.push_event-requires
push_event-requires c =
    let core = c.args.self.now in
    line_fits core.set c.args.client c.args.mode core.state c.args.out.now (can_grant c.args.stamp.node core.state c.args.client c.args.mode) c.requires.fits

pub returns-then-not-got-clause-answer : goal.returns-then-not-got-clause-answer
returns-then-not-got-clause-answer c =
    let got = granted_is c.args.self.now c.args.stamp c.args.client c.args.mode c.can_grant-got.result false c.requires.node c.can_grant-got.ensures c.if-not-got.true in
    sym (ap (λ (b : Bool). if b then True else False) got)

pub returns-then-not-got-clause-does : goal.returns-then-not-got-clause-does
returns-then-not-got-clause-does c =
    let core = c.args.self.now in
    let out : OutData = c.args.out.now in
    let got = granted_is core c.args.stamp c.args.client c.args.mode c.can_grant-got.result false c.requires.node c.can_grant-got.ensures c.if-not-got.true in
    let set : c.self.inside.set ≡ core.set = ap (λ (x : CoreData). x.set) c.self.view_is in
    subst (λ (made : Made). Does made core out core c.push_event.new.self) (sym (ap (by_grant core.set c.args.client c.args.mode core.state) got))
    (record {
      node = refl;
      set = refl;
      state = refl;
      sent = line_sent (event.Try c.args.client core.set c.args.mode false) core.state out c.push_event.new.self
          (c.push_event.ensures ∙ (λ i. record out { events = out.events ++ event.Try c.args.client (set i) c.args.mode (c.if-not-got.true i) ∷ [] }));
    })

pub returns-then-not-got-clause-room : goal.returns-then-not-got-clause-room
returns-then-not-got-clause-room c = room_less 1 c.args.stamp.clock c.args.self.now c.requires.room

pub gain-requires : goal.gain-requires
gain-requires c = record { room = c.requires.room }

pub returns-clause-answer : goal.returns-clause-answer
returns-clause-answer c =
    let got = granted_is c.args.self.now c.args.stamp c.args.client c.args.mode c.can_grant-got.result true c.requires.node c.can_grant-got.ensures c.if-not-got.false in
    sym (ap (λ (b : Bool). if b then True else False) got)

pub returns-clause-does : goal.returns-clause-does
returns-clause-does c =
    let core = c.args.self.now in
    let out : OutData = c.args.out.now in
    let got = granted_is core c.args.stamp c.args.client c.args.mode c.can_grant-got.result true c.requires.node c.can_grant-got.ensures c.if-not-got.false in
    let set : c.self.inside.set ≡ core.set = ap (λ (x : CoreData). x.set) c.self.view_is in
    subst (λ (made : Made). Does made core out c.gain.new.self c.push_event.new.self) (sym (ap (by_grant core.set c.args.client c.args.mode core.state) got))
    (record {
      node = c.gain.ensures.place.0;
      set = c.gain.ensures.place.1;
      state = c.gain.ensures.state;
      sent = line_sent (event.Try c.args.client core.set c.args.mode true) (given c.args.client c.args.mode None core.state) out c.push_event.new.self
          (c.push_event.ensures ∙ (λ i. record out { events = out.events ++ event.Try c.args.client (set i) c.args.mode (c.if-not-got.false i) ∷ [] }));
    })

pub returns-clause-room : goal.returns-clause-room
returns-clause-room c = c.gain.ensures.room
