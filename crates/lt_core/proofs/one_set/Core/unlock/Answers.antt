use Rattle.std.proofs.Common.{◌≡◌, ◌∙◌, ◌==◌, ◌<◌, ◌≤◌, ◌+◌, ℕ, Bool, true, false, ap, arith, if◌then◌else◌, length, refl, subst, sym}
use Rattle.std.specs.Bool.{OnFalse}
use Rattle.lt_modes.specs.Modes.{count_of, take_lock}
use Rattle.lt_modes.specs.SetMove.{answers}
use Rattle.lt_modes.specs.State.{Made, SetState}
use Rattle.lt_modes.specs.declared.event.Event.TheVariants as event
use Rattle.lt_modes.specs.declared.mode.Mode.{Mode}
use Rattle.lt_held.specs.HeldData.{HeldData}
use Rattle.lt_desk.specs.DeskData.{OutData, FitsOut, out_after}
use Rattle.lt_core.specs.CoreData.{CoreData, HasRoom}
use Rattle.lt_core.specs.declared.set_command.Answer.TheVariants.{NotHeld, Unlocked}
use Rattle.lt_core.proofs.CommandLemmas.{room_for_line, line_sent, no_less, room_by_more, room_held, not_false, not_true}
use Rattle.lt_core.proofs.StateSeen.{state_of}
use Rattle.lt_core.proofs.one_set.Core.unlock.Goals as goal

abbrev by_count : ℕ → ℕ → Mode → SetState → Bool → Made
by_count set client mode s is_none = if is_none then answers (event.NotHeld client set mode) s else answers (event.Unlock client set mode) (record s { held = take_lock s.held client mode })

-- there is room for the line, whether the client holds a lock or not
either_fits : (set client : ℕ) (mode : Mode) (s : SetState) (out : OutData) (is_none : Bool) → FitsOut (by_count set client mode s is_none) out → length out.events < out.event_room
either_fits set client mode s out true fits = room_for_line (event.NotHeld client set mode) s out fits
either_fits set client mode s out false fits = room_for_line (event.Unlock client set mode) (record s { held = take_lock s.held client mode }) out fits

no_more : (b : Bool) (old new : ℕ) → old ≡ new + (if b then 1 else 0) → new ≤ old + 0
no_more true old new h = omega (arith, h)
no_more false old new h = omega (arith, h)

pub push_event-requires : goal.push_event-requires
push_event-requires c =
    let core = c.args.self.now in
    either_fits core.set c.args.client c.args.mode core.state c.args.out.now (count_of core.state.held c.args.client c.args.mode == 0) c.requires.fits

pub push_event-requires-2 : goal.push_event-requires-2
push_event-requires-2 c =
    let core = c.args.self.now in
    either_fits core.set c.args.client c.args.mode core.state c.args.out.now (count_of core.state.held c.args.client c.args.mode == 0) c.requires.fits

pub returns-then-not-take-clause-answer : goal.returns-then-not-take-clause-answer
returns-then-not-take-clause-answer c =
    let none = not_false (count_of c.self.inside.held.rows c.args.client c.args.mode == 0) c.take.result c.take.ensures.taken c.if-not-take.true in
    sym (ap (λ (b : Bool). if b then NotHeld else Unlocked) (subst (λ (k : CoreData). (count_of k.state.held c.args.client c.args.mode == 0) ≡ true) c.self.view_is none))

pub returns-then-not-take-clause-does : goal.returns-then-not-take-clause-does
returns-then-not-take-clause-does c =
    let before = c.self.inside in
    let out = c.args.out.now in
    let line = event.NotHeld c.args.client before.set c.args.mode in
    let none = not_false (count_of before.held.rows c.args.client c.args.mode == 0) c.take.result c.take.ensures.taken c.if-not-take.true in
    let kept : c.take.new.self.rows ≡ before.held.rows = ap (λ (h : HeldData). h.rows) (subst (λ b. OnFalse b (c.take.new.self ≡ before.held)) c.if-not-take.true c.take.ensures.unchanged) in
    let s : SetState = state_of before in
    let is = sym (ap (by_count before.set c.args.client c.args.mode s) none) in
    rw (← c.self.view_is)
    (record {
      node = refl;
      set = refl;
      state = (λ i. record s { held = kept i }) ∙ ap (λ (made : Made). made.state) is;
      sent = line_sent line s out c.push_event.new.self c.push_event.ensures ∙ ap (λ (made : Made). out_after made out) is;
    })

pub returns-then-not-take-clause-room : goal.returns-then-not-take-clause-room
returns-then-not-take-clause-room c =
    let before = c.self.inside in
    room_held 0 1 c.args.stamp.clock _ _ (subst (HasRoom 1 c.args.stamp.clock) (sym c.self.view_is) c.requires.room) refl refl refl refl
    (room_by_more before.desk 0 before.held.spare c.take.new.self.spare (no_less _ _ c.take.ensures.spare)) (no_more c.take.result _ _ c.take.ensures.total)

pub returns-clause-answer : goal.returns-clause-answer
returns-clause-answer c =
    let some = not_true (count_of c.self.inside.held.rows c.args.client c.args.mode == 0) c.take.result c.take.ensures.taken c.if-not-take.false in
    sym (ap (λ (b : Bool). if b then NotHeld else Unlocked) (subst (λ (k : CoreData). (count_of k.state.held c.args.client c.args.mode == 0) ≡ false) c.self.view_is some))

pub returns-clause-does : goal.returns-clause-does
returns-clause-does c =
    let before = c.self.inside in
    let out = c.args.out.now in
    let line = event.Unlock c.args.client before.set c.args.mode in
    let some = not_true (count_of before.held.rows c.args.client c.args.mode == 0) c.take.result c.take.ensures.taken c.if-not-take.false in
    let s : SetState = state_of before in
    let is = sym (ap (by_count before.set c.args.client c.args.mode s) some) in
    rw (← c.self.view_is)
    (record {
      node = refl;
      set = refl;
      state = (λ i. record s { held = c.take.ensures.rows i }) ∙ ap (λ (made : Made). made.state) is;
      sent = line_sent line s out c.push_event-2.new.self c.push_event-2.ensures ∙ ap (λ (made : Made). out_after made out) is;
    })

pub returns-clause-room : goal.returns-clause-room
returns-clause-room c =
    let before = c.self.inside in
    room_held 0 1 c.args.stamp.clock _ _ (subst (HasRoom 1 c.args.stamp.clock) (sym c.self.view_is) c.requires.room) refl refl refl refl
    (room_by_more before.desk 0 before.held.spare c.take.new.self.spare (no_less _ _ c.take.ensures.spare)) (no_more c.take.result _ _ c.take.ensures.total)
