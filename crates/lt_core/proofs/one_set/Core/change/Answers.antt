use Rattle.std.proofs.Common.{◌≡◌, ◌≢◌, ◌∙◌, ◌==◌, ◌++◌, ℕ, [], ◌∷◌, Bool, Some, true, false, ap, append-nil, arith, eq-eqb, if◌then◌else◌, length-append, ne_eqb, refl, subst, sym}
use Rattle.lt_modes.specs.Granting.{can_grant}
use Rattle.lt_modes.specs.Modes.{count_of}
use Rattle.lt_modes.specs.SetMove.{answers, change_held}
use Rattle.lt_modes.specs.State.{Made, SetState}
use Rattle.lt_modes.specs.declared.event.Event.TheVariants as event
use Rattle.lt_modes.specs.declared.mode.Mode.{Mode}
use Rattle.lt_modes.specs.declared.stamp.Stamp.{Stamp}
use Rattle.lt_desk.specs.DeskData.{FitsOut}
use Rattle.lt_core.specs.CoreData.{CoreData, Does, told_to_wait}
use Rattle.lt_core.specs.declared.set_command.Answer.{Answer}
use Rattle.lt_core.specs.declared.set_command.Answer.TheVariants.{Changed, NotHeld}
use Rattle.lt_core.proofs.NoticeLemmas.{room_less}
use Rattle.lt_core.proofs.one_set.Core.change.Goals as goal

abbrev by_count : ℕ → Stamp → ℕ → Mode → Mode → SetState → Bool → Made
by_count set stamp client gives_up mode s is_none = if is_none then answers (event.NotHeld client set gives_up) s else change_held set stamp client gives_up mode s

abbrev answer_by : ℕ → ℕ → Mode → Mode → SetState → Bool → Answer
answer_by node client gives_up mode s is_none =
    if is_none then NotHeld else (if can_grant node s client mode then Changed else told_to_wait client mode (Some gives_up) s)

-- the count that was read, of a core and what it is seen as
none_held : (core : CoreData) (client count n : ℕ) (mode : Mode) → count ≡ n → n ≡ count_of core.state.held client mode → count ≡ 0 → (count_of core.state.held client mode == 0) ≡ true
none_held core client count n mode is same none = eq-eqb (count_of core.state.held client mode) 0 (sym (is ∙ same) ∙ none)

some_held : (core : CoreData) (client count n : ℕ) (mode : Mode) → count ≡ n → n ≡ count_of core.state.held client mode → count ≢ 0 → (count_of core.state.held client mode == 0) ≡ false
some_held core client count n mode is same some = ne_eqb (count_of core.state.held client mode) 0 (λ none. some (is ∙ same ∙ none))

pub push_event-requires : goal.push_event-requires
push_event-requires c =
    let core = c.args.self.now in
    let out = c.args.out.now in
    let none = none_held core c.args.client c.count.result _ c.args.gives_up c.count.ensures.count (ap (λ (x : CoreData). count_of x.state.held c.args.client c.args.gives_up) c.self.view_is) c.if-count-eq0.true in
    let fits = subst (λ (made : Made). FitsOut made out) (ap (by_count core.set c.args.stamp c.args.client c.args.gives_up c.args.mode core.state) none) c.requires.fits in
    omega (arith, fits.events, length-append out.events (event.NotHeld c.args.client core.set c.args.gives_up ∷ []))

pub returns-then-count-eq0-clause-does : goal.returns-then-count-eq0-clause-does
returns-then-count-eq0-clause-does c =
    let core = c.args.self.now in
    let out = c.args.out.now in
    let none = none_held core c.args.client c.count.result _ c.args.gives_up c.count.ensures.count (ap (λ (x : CoreData). count_of x.state.held c.args.client c.args.gives_up) c.self.view_is) c.if-count-eq0.true in
    subst (λ (made : Made). Does made core out core c.push_event.new.self) (sym (ap (by_count core.set c.args.stamp c.args.client c.args.gives_up c.args.mode core.state) none))
    (record {
      node = refl;
      set = refl;
      state = refl;
      sent = c.push_event.ensures
          ∙ (λ i. record out {
            posts = sym (append-nil out.posts) i;
            events = out.events ++ event.NotHeld c.args.client (ap (λ (x : CoreData). x.set) c.self.view_is i) c.args.gives_up ∷ [];
          });
    })

pub returns-then-count-eq0-clause-answer : goal.returns-then-count-eq0-clause-answer
returns-then-count-eq0-clause-answer c =
    let core = c.args.self.now in
    let none = none_held core c.args.client c.count.result _ c.args.gives_up c.count.ensures.count (ap (λ (x : CoreData). count_of x.state.held c.args.client c.args.gives_up) c.self.view_is) c.if-count-eq0.true in
    sym (ap (answer_by c.args.stamp.node c.args.client c.args.gives_up c.args.mode core.state) none)

pub returns-then-count-eq0-clause-room : goal.returns-then-count-eq0-clause-room
returns-then-count-eq0-clause-room c = room_less 1 c.args.stamp.clock c.args.self.now c.requires.room.move

pub change_held-requires-clause-node : goal.change_held-requires-clause-node
change_held-requires-clause-node c = c.requires.node

pub change_held-requires-clause-room : goal.change_held-requires-clause-room
change_held-requires-clause-room c = c.requires.room

pub change_held-requires-clause-fits : goal.change_held-requires-clause-fits
change_held-requires-clause-fits c =
    let core = c.args.self.now in
    let some = some_held core c.args.client c.count.result _ c.args.gives_up c.count.ensures.count (ap (λ (x : CoreData). count_of x.state.held c.args.client c.args.gives_up) c.self.view_is) c.if-count-eq0.false in
    subst (λ (made : Made). FitsOut made c.args.out.now) (ap (by_count core.set c.args.stamp c.args.client c.args.gives_up c.args.mode core.state) some) c.requires.fits

pub returns-clause-does : goal.returns-clause-does
returns-clause-does c =
    let core = c.args.self.now in
    let some = some_held core c.args.client c.count.result _ c.args.gives_up c.count.ensures.count (ap (λ (x : CoreData). count_of x.state.held c.args.client c.args.gives_up) c.self.view_is) c.if-count-eq0.false in
    subst (λ (made : Made). Does made core c.args.out.now c.change_held.new.self c.change_held.new.out) (sym (ap (by_count core.set c.args.stamp c.args.client c.args.gives_up c.args.mode core.state) some)) c.change_held.ensures.does

pub returns-clause-answer : goal.returns-clause-answer
returns-clause-answer c =
    let core = c.args.self.now in
    let some = some_held core c.args.client c.count.result _ c.args.gives_up c.count.ensures.count (ap (λ (x : CoreData). count_of x.state.held c.args.client c.args.gives_up) c.self.view_is) c.if-count-eq0.false in
    c.change_held.ensures.answer ∙ sym (ap (answer_by c.args.stamp.node c.args.client c.args.gives_up c.args.mode core.state) some)

pub returns-clause-room : goal.returns-clause-room
returns-clause-room c = c.change_held.ensures.room
