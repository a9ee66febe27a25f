-- What a node keeps is sound, where the parts of the invariant hold.
use Rattle.std.proofs.Common.{◌≡◌, ◌≢◌, ℕ, ◌<◌, ◌≤◌, List, length, Option, Some, None, Bool, false, refl, sym, ap, subst, arith, ◌∙◌, inl, inr, zero, suc, [], ◌∷◌, take, ◌⊎◌, if◌then◌else◌, Contains, AllPairs, IsTrue, IfSome, count_by, slice_index_or, ne_eqb}
use Rattle.std.proofs.lemmas.Bool.{cases_eq}
use Rattle.std.proofs.lemmas.List.Elements.{All-contains}
use Rattle.std.proofs.lemmas.List.Quantifiers.{position-Some}
use Rattle.lt_modes.specs.declared.mode.Mode.{Mode}
use Rattle.lt_modes.specs.declared.ask.Ask.{Ask}
use Rattle.lt_modes.specs.declared.parts.Row.{Row}
use Rattle.lt_modes.specs.Script.{ScriptData}
use Rattle.lt_modes.specs.State.{SetState, Desk, times_in, Letter}
use Rattle.lt_modes.specs.Modes.{is_row_of, no_row, row_place, count_at, count_of}
use Rattle.lt_modes.specs.Fits.{is_at_home, asks_here, numbers_of}
use Rattle.lt_modes.specs.Sound.{HoldsGivenUp, SoundPending, SoundHere, SoundDesk, SoundSet}
use Rattle.lt_lists.proofs.Sums.{sum_below-at, none_found, sum_by-zero}
use Rattle.lt_lists.proofs.Members.{all_of, nothing_in}
use Rattle.lt_lists.specs.Below.{put}
use Rattle.lt_lists.proofs.Puts.{put-same, put-other}
use Rattle.lt_spec.specs.NodeMove.{IsWhole}
use Rattle.lt_spec.specs.World.{World, node_move, after, Logged, start, after_run, world_after, IsRunFrom}
use Rattle.lt_spec.specs.Facts.{state_at, places_in_state, place_count, DeskIs}
use Rattle.lt_law_accounts.proofs.Asks.{times_in-some}
use Rattle.lt_law_accounts.proofs.RowTotals.{row_count, total}
use Rattle.lt_model.specs.Homes.{HasSoundHomes, IsSoundOwn}
use Rattle.lt_model.specs.OnWay.{is_at}
use Rattle.lt_model.specs.Invariant.{Timed, Paths, AsksStand, WorldInvariant}
use Rattle.lt_model.proofs.PathsMove.{desk_somewhere, kept_stands, kept_timed, move_kept}
use Rattle.lt_model.proofs.HomesSound.{sound_state}
use Rattle.lt_model.proofs.NodeEffects.{after_node}
use Rattle.lt_model.proofs.TimedMove.{timed_kept}
use Rattle.lt_model.proofs.ClocksGrow.{served_kept, clocks_in_runs}
use Rattle.lt_model.proofs.StandingMove.{standing_kept}
use Rattle.lt_model.proofs.StartKept.{start_kept}
use Rattle.lt_law_invariant.specs.InvariantLaws.{LedgersKept, KeptStays, KeptInRuns, LocksNeverConflict, LettersFitInRuns, FirstWaiterInRuns, LedInRuns, FrozenInRuns}
use Rattle.lt_law_invariant.proofs.OneDesk.{named_firm, entries_on}
use Rattle.lt_law_invariant.proofs.ClientCounts.{SomeEach}
use Rattle.lt_law_invariant.proofs.ClientEffects.{is_asks, GivenBy}
use Rattle.lt_law_invariant.proofs.ClientMoves.{SoundClients}
use Rattle.lt_law_invariant.proofs.FittingLetters.{OwnAsks, apart_by, one_each, here_times, standing_apart, standing_known, letters_fit}
use Rattle.lt_law_invariant.proofs.KeptHomes.{HomesWithin, kept_homes, homes_within_kept}
use Rattle.lt_law_invariant.proofs.KeptParked.{HeldOrComes, none_parked, held_or_comes_kept, parked_for}
use Rattle.lt_law_invariant.proofs.HeldUpMoves.{moves_keep_ledgers, locks_agree}
use Rattle.lt_law_invariant.proofs.ClientsKept.{sound_clients, clients_kept}
use Rattle.lt_law_invariant.proofs.RowsKept.{rows_stay_apart}
use Rattle.lt_law_invariant.proofs.FirstWaiter.{first_waiter_conflicts, holders_are_frozen}
use Rattle.lt_law_invariant.proofs.MidMove.{asks_are_led}

-- what is held is counted in its first row
counted_first : (rows : List Row) (client : ℕ) (mode : Mode) → SomeEach rows → 1 ≤ total rows client mode → 1 ≤ count_of rows client mode
counted_first rows client mode some h = by_place (row_place rows client mode) refl
  where
    by_place : (o : Option ℕ) → row_place rows client mode ≡ o → 1 ≤ count_at rows o
    by_place None e =
        let nothing =
        sum_by-zero (row_count client mode) rows
        (λ i d within. ap (λ (b : Bool). if b then (slice_index_or rows i d).count else 0) (none_found (is_row_of client mode) rows e i d within)) in
        absurd (omega (arith, h, nothing))
    by_place (Some k) e = some k no_row (position-Some (is_row_of client mode) rows k no_row e).0

gives_up_held : (rows : List Row) (client : ℕ) (o : Option Mode) → SomeEach rows → GivenBy rows client o → HoldsGivenUp rows client o
gives_up_held rows client None some h = tt
gives_up_held rows client (Some mode) some h = counted_first rows client mode some h

-- what holds of a world, of a set of it and of node x
pub record SetFacts (script : ScriptData) (w : World) (s x : ℕ) : Type 0 where
  pub paths : Paths script w s
  pub stood : AsksStand script w s
  pub timed : Timed script w s
  pub known : LedgersKept script w s
  pub homes : HomesWithin script w
  pub held : HeldOrComes script w s x
  pub clients : (y : ℕ) → y < script.nodes → SoundClients script (w.node y)

-- then what node x keeps is sound
pub sound_set : (script : ScriptData) (w : World) (s x : ℕ) → IsWhole script → SetFacts script w s x → s < length script.sets → x < script.nodes
    → AllPairs (λ (a b : Row). (a.client ≢ b.client) ⊎ (a.mode ≢ b.mode)) (state_at w s x).held
    → SoundSet (numbers_of script) x false false (w.node x).clock (state_at w s x)
sound_set script w s x whole g below under differ = record {
  rows = homes.rows;
  rows_apart = differ;
  pending = all_of (SoundPending (numbers_of script) x t) t.pending (λ ask there.
      let own = All-contains (IsSoundOwn script x) t.pending ask homes.pending there in
      record {
        home = own.0;
        node = own.1;
        maker = own.2;
        gives_up = λ live. gives_up_held t.held ask.client ask.gives_up (clients.some s below)
            (clients.gives s below ask there live);
      });
  one_ask = one_each t.pending (few_at x under);
  stamps_apart = g.stood.apart x under;
  made = all_of (λ (ask : Ask). ask.stamp.clock ≤ (w.node x).clock) t.pending (λ ask there. made ask there (desk_somewhere script w s g.paths));
  here = all_of (SoundHere (numbers_of script) x t) (asks_here t) (λ ask there.
      record {
        home = All-contains (λ (a : Ask). IsTrue (is_at_home (numbers_of script) a))
            (asks_here t) ask homes.here there;
        known = standing_known script w s x ask g.stood
            (omega (arith, places ask, times_in-some ask (asks_here t) there));
      });
  apart = apart_by (asks_here t) (standing_apart script w s (asks_here t) asks places);
  desk = by_desk t.desk refl;
  epoch = (g.timed.states x under).epoch;
  number = (g.timed.states x under).number;
  firm = named_firm script w s x whole.some_node g.paths under;
  hoped = (g.paths.states x under).hoped;
  parked = homes.parked;
}
  where
    t : SetState
    t = state_at w s x

    homes : HasSoundHomes script x t
    homes = sound_state script x t whole (g.homes.states x s under below)

    clients : SoundClients script (w.node x)
    clients = g.clients x under

    few_at : (y : ℕ) → y < script.nodes → (c : ℕ) → count_by (is_asks c) (state_at w s y).pending ≤ 1
    few_at y hy c = (g.clients y hy).one s below c

    asks : OwnAsks script w s
    asks = record { stood = g.stood; own = λ y hy. (g.homes.states y s hy below).pending; few = few_at }

    places : (ask : Ask) → times_in ask (asks_here t) ≤ place_count script w s ask
    places ask = omega (arith, here_times ask t, sum_below-at script.nodes x (λ y. places_in_state ask (state_at w s y)) under)

    made : (ask : Ask) → Contains t.pending ask → (place : Option ℕ) × (desk : Desk) × DeskIs script w s place desk → ask.stamp.clock ≤ (w.node x).clock
    made ask there found = ((g.known found.0 found.1 found.2).accounts x under).clocks.asks ask there

    by_desk : (o : Option Desk) → t.desk ≡ o → SoundDesk (numbers_of script) false false (w.node x).clock t o
    by_desk (Some desk) e =
        let times = subst (λ (o : Option Desk). IfSome o (λ (d : Desk). (d.epoch ≤ (w.node x).clock) × (d.number ≤ (w.node x).clock))) e (g.timed.states x under).desk in
        (none_parked script w s x desk g.paths under e g.held, times.0, times.1, entries_on script w s g.paths (Some x) desk (under, e))
    by_desk None e =
        let found = desk_somewhere script w s g.paths in
        ((g.known found.0 found.1 found.2).accounts x under).charge (elsewhere found.0 found.1 found.2)
      where
        no_desk : {A : Type 0} (d : Desk) → None ≡ Some d → A
        no_desk d f = cc

        elsewhere : (place : Option ℕ) (desk : Desk) → DeskIs script w s place desk → is_at place x ≡ false
        elsewhere None desk h = refl
        elsewhere (Some p) desk h = ne_eqb x p (λ same. no_desk desk (sym e ∙ ap (λ (y : ℕ). (state_at w s y).desk) same ∙ h.1))

-- Each enabled move of any world that has the invariant keeps it.

-- each enabled move keeps the invariant
pub kept_stays : KeptStays
kept_stays script w q step whole h enabled = record {
  clients = λ x below. (clients x below).kept;
  letters = λ a b ha hb. all_of (λ (letter : Letter). letter.set < length script.sets) (later.mail a b) (λ letter there. (homes.letters a b letter ha hb there).set);
  none_to_itself = λ x below. nothing_in (later.mail x x) (λ letter there.
      ((paths letter.set (homes.letters x x letter below below there).set).letters x x letter below (record { among = there; set = refl })).other refl);
  sets = λ s under. record {
    paths = paths s under;
    letters = λ a b letter ha hb on. (timed s under).letters a b letter ha on;
    states = λ x below. sound_set script later s x whole (facts s x under below) under below (rows_stay_apart script w q step whole h enabled x s below under);
    places = (stood s under).places;
    parked = λ x below. parked_for script later s x (paths s under) below (held s x under below);
    known = known s under;
    served = λ t desk idle there. served_kept script w s (λ x d at. (h.sets s under).served x d refl at) q step enabled t desk there;
  };
}
  where
    later : World
    later = after script w q step

    paths : (s : ℕ) → s < length script.sets → Paths script later s
    paths s under = move_kept script w s whole.some_node (h.sets s under).paths q step enabled

    stood : (s : ℕ) → s < length script.sets → AsksStand script later s
    stood s under = standing_kept script w s whole.some_node (h.sets s under).paths (kept_stands script w s (h.sets s under)) q step enabled

    timed : (s : ℕ) → s < length script.sets → Timed script later s
    timed s under = timed_kept script w s (kept_timed script w s (h.sets s under)) q step enabled

    known : (s : ℕ) → s < length script.sets → LedgersKept script later s
    known s under = moves_keep_ledgers script w s q step whole (h.sets s under) enabled

    homes : HomesWithin script later
    homes = homes_within_kept script w q step whole (kept_homes script w h) enabled

    held : (s x : ℕ) → s < length script.sets → x < script.nodes → HeldOrComes script later s x
    held s x under below = held_or_comes_kept script w s q step x whole (h.sets s under) below enabled

    clients : (x : ℕ) → x < script.nodes → SoundClients script (later.node x)
    clients x below = subst (SoundClients script) (sym (after_node script w q step x)) (elim (cases_eq x q) [
      | inl e ↦ subst (SoundClients script) (sym (ap (put w.node q (node_move script w q step).node) e ∙ put-same w.node q (node_move script w q step).node))
          (clients_kept script w whole h q step enabled)
      | inr d ↦ subst (SoundClients script) (sym (put-other w.node q (node_move script w q step).node x d)) (sound_clients script w x h below)
    ])

    facts : (s x : ℕ) → s < length script.sets → x < script.nodes → SetFacts script later s x
    facts s x under below = record {
      paths = paths s under;
      stood = stood s under;
      timed = timed s under;
      known = known s under;
      homes = homes;
      held = held s x under below;
      clients = clients;
    }

-- The invariant in every run, and what follows from it there.

run_kept : (script : ScriptData) (run : List Logged) (w : World) → IsWhole script → WorldInvariant script w → IsRunFrom script w run → (k : ℕ)
    → WorldInvariant script (after_run script w (take k run))
run_kept script run w whole h is_run zero = h
run_kept script [] w whole h is_run (suc k) = h
run_kept script (entry ∷ rest) w whole h is_run (suc k) =
    let q = entry.made.stamp.node in
    run_kept script rest (after script w q entry.made.step) whole (kept_stays script w q entry.made.step whole h is_run.0.enabled) is_run.1 k

pub kept_in_runs : KeptInRuns
kept_in_runs script run whole is_run k = run_kept script run (start script) whole (start_kept script whole.some_node) is_run k

pub locks_never_conflict : LocksNeverConflict
locks_never_conflict script run whole is_run k s below = locks_agree script (world_after script (take k run)) s ((kept_in_runs script run whole is_run k).sets s below)

pub letters_fit_in_runs : LettersFitInRuns
letters_fit_in_runs script run whole is_run k p q letter few hp hq there =
    let clocks = clocks_in_runs script run is_run k in
    let sent = (clocks.0 p q letter there).1 in
    letters_fit script (world_after script (take k run)) p q letter whole (kept_in_runs script run whole is_run k) hp hq there
    (omega (arith, few, sent, clocks.1 p)) (omega (arith, few, clocks.1 q))

pub first_waiter_in_runs : FirstWaiterInRuns
first_waiter_in_runs script run whole is_run k s ask below rest first =
    first_waiter_conflicts script (world_after script (take k run)) s ask ((kept_in_runs script run whole is_run k).sets s below) rest first

pub led_in_runs : LedInRuns
led_in_runs script run whole is_run k s x ask below under rest waits =
    asks_are_led script (world_after script (take k run)) s x ask ((kept_in_runs script run whole is_run k).sets s below) under rest waits

pub frozen_in_runs : FrozenInRuns
frozen_in_runs script run whole is_run k s x row below under rest held =
    holders_are_frozen script (world_after script (take k run)) s x row ((kept_in_runs script run whole is_run k).sets s below) under rest held
