-- Lists with one element, and lines that tell no wait.
use Rattle.std.proofs.Common.{◌≡◌, ℕ, List, [], ◌∷◌, Some, None, inl, inr, sym, ◌∙◌, arith, refl, subst, ap, false, Bool, true, Option, Contains, IsTrue, ◌==◌, if◌then◌else◌}
use Rattle.std.proofs.lemmas.Bool.{false≢true}
use Rattle.lt_modes.specs.declared.mode.Mode.{Mode}
use Rattle.lt_modes.specs.declared.event.Event.{Event}
use Rattle.lt_modes.specs.declared.mode.Mode.TheVariants.{Read, Write, IntentionRead, Upgrade}
use Rattle.lt_modes.specs.Modes.{conflicts, Modes, excludes_itself}
use Rattle.lt_modes.specs.declared.event.Event.TheVariants.{Try as Tried, Grant, Wait}
use Rattle.lt_modes.specs.declared.ask.Ask.{Ask}
use Rattle.lt_modes.specs.State.{Desk, ParkedAsk}
use Rattle.lt_modes.specs.Telling.{is_newer}
use Rattle.lt_modes.specs.Freezing.{frozen_by}
use Rattle.lt_lists.proofs.Members.{contains_cases, none_in, some_equal}
use Rattle.lt_spec.specs.Holdings.{holding, wanted, HasOpenWait, Holding}
use Rattle.lt_spec.specs.Facts.{LeadsBy}
use Rattle.lt_spec.specs.Promised.{IsInTurn}
use Rattle.lt_law_examples.specs.Snapshot.{stamp, new_ask}
use Rattle.lt_law_lines.proofs.WaitActs.{open_wait}
use Rattle.lt_law_pinned.specs.Locks.{LocksExcluded, RestsExcluded, TriesExcluded, WaitsExcluded, ask_that_leaves, PlacesExcluded}
use Rattle.lt_law_pinned.specs.Waits.{first_writer, holding_writer, later_writer, ask_of_first_reader}
use Rattle.lt_law_pinned.specs.Worlds.{two_nodes, alike, desk_with, writer, old_reader, young_writer, parked_here, CountsExcluded, StandingExcluded, TurnsExcluded}

-- what a list with one element has is that one
pub only_one : {X : Type 0} (one x : X) → Contains (one ∷ []) x → one ≡ x
only_one one x h = elim (contains_cases one x [] h) [
  | inl same ↦ same
  | inr later ↦ none_in x later
]

-- a client that wants nothing by the lines has no open `wait` line
pub untold : (client s : ℕ) (mode : Mode) (lines : List Event) → wanted client lines ≡ None → HasOpenWait client s mode lines → ⊥
untold client s mode lines none told = none_some (sym none ∙ (open_wait client s mode lines).1 told)
  where
    none_some : None ≡ Some (holding client s mode) → ⊥
    none_some e = cc

-- Conflicting locks, and locks that the lines don't tell.

pub locks_excluded : LocksExcluded
unfolding conflicts
locks_excluded = record {
  granted_at_last = λ p. false≢true ((p.moments 2).lawful 0 1 (holding 0 0 Read) (omega arith) (omega arith));
  granted_at_first = λ p. false≢true ((p.moments 1).lawful 0 1 (holding 0 0 Read) (omega arith) (omega arith));
  stranger_at_first = λ p. false≢true ((p.moments 1).lawful 0 1 (holding 0 0 Read) (omega arith) (omega arith));
  stranger_at_last = λ p. false≢true ((p.moments 2).lawful 1 2 (holding 0 0 Read) (omega arith) (omega arith));
  stranger_midway = λ p. false≢true ((p.moments 1).lawful 0 1 (holding 0 0 Read) (omega arith) (omega arith));
  strangers_apart = λ p. false≢true ((p.moments 1).lawful 0 2 (holding 0 0 Read) (omega arith) (omega arith));
  set_of_strangers = λ p. false≢true ((p.moments 1).lawful 1 2 (holding 0 0 Read) (omega arith) (omega arith));
  lock_untold = λ p. omega (arith, (p.moments 1).held 0 0 Write (omega arith) (omega arith));
  lock_told_twice = λ p. omega (arith, (p.moments 1).held 0 0 Write (omega arith) (omega arith));
  second_lock_untold = λ p. omega (arith, (p.moments 2).held 1 1 Read (omega arith) (omega arith));
  lock_told_late = λ p. omega (arith, (p.moments 1).held 1 1 Read (omega arith) (omega arith));
}

-- First waiters in whose way nobody is.

pub rests_excluded : RestsExcluded
unfolding conflicts
rests_excluded = record {
  nobody_in_way = λ p.
      let barred = ((p.moments 2).at_rest refl).first 0 first_writer (omega arith) (0, [], omega arith, refl) in
      omega (arith, barred.held.1);
  own_lock_in_way = λ p.
      let barred = ((p.moments 3).at_rest refl).first 0 holding_writer (omega arith) (0, [], omega arith, refl) in
      let same = only_one (holding 0 0 Upgrade) barred.lock barred.held in
      barred.other (sym (ap (λ (lock : Holding). lock.client) same));
  lock_elsewhere = λ p.
      let barred = ((p.moments 3).at_rest refl).first 0 later_writer (omega arith) (0, [], omega arith, refl) in
      let same = only_one (holding 1 1 Write) barred.lock barred.held in
      omega (arith, barred.set, ap (λ (lock : Holding). lock.set) same);
  lock_beside = λ p.
      let barred = ((p.moments 3).at_rest refl).first 0 ask_of_first_reader (omega arith) (0, [], omega arith, refl) in
      let same = only_one (holding 1 0 IntentionRead) barred.lock barred.held in
      false≢true (subst (λ (lock : Holding). IsTrue (conflicts Read lock.mode)) (sym same) barred.conflict);
}

-- Tries that are told wrongly.

pub tries_excluded : TriesExcluded
unfolding conflicts
tries_excluded = record {
  refused_at_first = λ p. false≢true (p.tries 0 _ refl 0 (Tried 0 0 Read false) (omega arith));
  refused_at_second = λ p. false≢true (p.tries 1 _ refl 0 (Tried 0 0 Read false) (omega arith));
  given_at_second = λ p. false≢true (sym (p.tries 1 _ refl 0 (Tried 0 0 Read false) (omega arith)));
  refused_beside = λ p. false≢true (p.tries 0 _ refl 1 (Tried 0 0 Read false) (omega arith));
}

-- Lines that don't tell who waits.

-- after the one grant nobody wants anything
nobody_wants : (client : ℕ) → wanted client (Grant 0 0 Write ∷ []) ≡ None
nobody_wants client = either (0 == client)
  where
    nothing : Option Holding
    nothing = None

    either : (t : Bool) → (if t then nothing else nothing) ≡ nothing
    either true = refl
    either false = refl

write_read : Write ≡ Read → ⊥
write_read e = cc

pub waits_excluded : WaitsExcluded
unfolding conflicts
waits_excluded = record {
  wait_untold = λ p.
      untold 2 0 Write _ refl
      (((p.moments 3).waits 2 0 Write (omega arith) (omega arith)).1 (new_ask 2 Write (stamp 3 0), (1, omega arith, refl), refl, refl, refl));
  wait_told_early = λ p.
      let waiter = ((p.moments 2).waits 2 0 Write (omega arith) (omega arith)).0 (Grant 0 0 Write ∷ Wait 1 0 Write ∷ [], [], refl, tt) in
      omega (arith, waiter.2, ap (λ (ask : Ask). ask.client) (only_one (new_ask 1 Write (stamp 2 0)) waiter.0 waiter.1));
  other_mode_told = λ p.
      let waiter = ((p.moments 2).waits 1 0 Read (omega arith) (omega arith)).0 (Grant 0 0 Write ∷ [], [], refl, tt) in
      write_read (ap (λ (ask : Ask). ask.mode) (only_one (new_ask 1 Write (stamp 2 0)) waiter.0 waiter.1) ∙ waiter.3);
  other_set_told = λ p.
      let waiter = ((p.moments 2).waits 1 1 Write (omega arith) (omega arith)).0 (Grant 0 0 Write ∷ [], [], refl, tt) in
      omega (arith, waiter.1.1);
  answer_told = λ p.
      untold 1 0 Write _ refl
      (((p.moments 3).waits 1 0 Write (omega arith) (omega arith)).1 (new_ask 1 Write (stamp 2 0), (0, omega arith, refl), refl, refl, refl));
  nobody_told = λ p.
      let told = (p.moments 2).somebody.0 refl in
      untold told.0 told.1 told.2 _ (nobody_wants told.0) told.5;
  somebody_told = λ p.
      false≢true ((p.moments 1).somebody.1 (1, 0, Write, omega arith, omega arith, (Grant 0 0 Write ∷ [], [], refl, tt)));
}

-- Tokens and asks that leave the nodes of the script.

pub places_excluded : PlacesExcluded
unfolding conflicts
places_excluded = record {
  no_node = λ p. omega (arith, (p.moments 0).one_token 0);
  token_leaves = λ p. omega (arith, (p.moments 2).one_token 0);
  second_token_leaves = λ p. omega (arith, (p.moments 2).one_token 1);
  ask_leaves = λ p. omega (arith, (p.moments 5).one_place 0 0 ask_that_leaves (omega arith) (0, omega arith, refl));
  second_ask_leaves = λ p. omega (arith, (p.moments 5).one_place 1 0 ask_that_leaves (omega arith) (0, omega arith, refl));
}

-- Worlds with one fault each, computed.

pub counts_excluded : CountsExcluded
counts_excluded = record {
  no_token = refl;
  two_desks = refl;
  two_letters = refl;
  desks_and_letter = refl;
  stands_nowhere = record { times = refl; excluded = λ once. omega (arith, once 0 0 writer (omega arith) (0, omega arith, refl)) };
  stands_in_queues = record { times = refl; excluded = λ once. omega (arith, once 0 0 writer (omega arith) (0, omega arith, refl)) };
  stands_parked = record { times = refl; excluded = λ once. omega (arith, once 0 0 writer (omega arith) (0, omega arith, refl)) };
  stands_in_letters = record { times = refl; excluded = λ once. omega (arith, once 0 0 writer (omega arith) (0, omega arith, refl)) };
  stands_in_tokens = record { times = refl; excluded = λ once. omega (arith, once 0 0 writer (omega arith) (0, omega arith, refl)) };
}

-- where no queue has an ask, and an ask that is parked here isn't behind the one that is unanswered, nothing is led
not_led : (one : Ask) → (excludes_itself one.mode ≡ false) → (chain : List Ask)
    → LeadsBy two_nodes (alike (parked_here (ParkedAsk writer ∷ []) (one ∷ [])) []) 0 writer chain → ⊥
not_led one plain [] (q, few, here) = omega (arith, here.1)
not_led one plain (older ∷ rest) leads =
    false≢true (sym plain ∙ ap (λ (ask : Ask). excludes_itself ask.mode) (only_one one older leads.0.unanswered) ∙ leads.0.taking)

not_led_by : (one : Ask) → (is_newer writer.stamp one.stamp ≡ false) → (chain : List Ask)
    → LeadsBy two_nodes (alike (parked_here (ParkedAsk writer ∷ []) (one ∷ [])) []) 0 writer chain → ⊥
not_led_by one plain [] (q, few, here) = omega (arith, here.1)
not_led_by one plain (older ∷ rest) leads =
    false≢true (sym plain ∙ ap (λ (ask : Ask). is_newer writer.stamp ask.stamp) (only_one one older leads.0.unanswered) ∙ leads.0.younger)

nowhere_led : (chain : List Ask) → LeadsBy two_nodes (alike (parked_here [] (writer ∷ [])) []) 0 writer chain → ⊥
nowhere_led [] (q, few, here) = omega (arith, here.1)
nowhere_led (older ∷ rest) leads = omega (arith, leads.0.parked.1)

none_some : (desk : Desk) → None ≡ Some desk → ⊥
none_some desk e = cc

-- the client of the first ask
abbrev first_of : List Ask → ℕ
first_of [] = 7
first_of (ask ∷ rest) = ask.client

pub standing_excluded : StandingExcluded
unfolding conflicts
standing_excluded = record {
  second = λ first. let e : 1 ≡ 0 = ap first_of first.3 in omega (arith, e);
  nowhere = λ led. nowhere_led led.0 led.1;
  behind_reader = λ led. not_led old_reader refl led.0 led.1;
  behind_younger = λ led. not_led_by young_writer refl led.0 led.1;
  unfrozen = λ frozen.
      let same = some_equal (desk_with (writer ∷ [])) frozen.1 frozen.2.1 in
      false≢true (ap (λ (modes : Modes). modes.write) (frozen.3 ∙ ap (λ (desk : Desk). frozen_by desk.queue) (sym same)));
  no_desk = λ frozen. none_some frozen.1 frozen.2.1;
}

pub turns_excluded : TurnsExcluded
unfolding conflicts
turns_excluded = record {
  before_writer = λ turn. false≢true (sym (turn 0 (omega arith) refl));
  before_first = λ turn. false≢true (sym (turn 0 (omega arith) refl));
  each = λ script w q step s serves j k service within at before live.
      subst IsInTurn at (serves.in_turn j service within) k before live;
}
