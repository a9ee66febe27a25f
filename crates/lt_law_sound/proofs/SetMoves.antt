-- Each move of a node on one of its sets leaves a sound set sound.
use Rattle.std.proofs.Common.{◌≡◌, ℕ, ◌+◌, ◌<◌, ◌≤◌, List, [], ◌∷◌, length, Option, Some, None, Bool, true, false, refl, sym, subst, arith, ◌==◌, if◌then◌else◌, is_some, eqb-true}
use Rattle.std.proofs.lemmas.List.Elements.{Contains-get_or}
use Rattle.lt_modes.specs.declared.mode.Mode.{Mode}
use Rattle.lt_modes.specs.declared.stamp.Stamp.{Stamp}
use Rattle.lt_modes.specs.declared.ask.Ask.{Ask}
use Rattle.lt_modes.specs.Script.{ScriptData}
use Rattle.lt_modes.specs.State.{SetState, Desk, Made, Post, no_ask}
use Rattle.lt_modes.specs.Serving.{queue_of, queue_of_desk, ask_at, next_service, serve_local, serve_copy, without_gone}
use Rattle.lt_modes.specs.HandingOver.{next_draw}
use Rattle.lt_modes.specs.SetMove.{finish, locked, tried, unlocked, changed, dropped, withdrawn, lock, try, unlock, change, drop, withdraw}
use Rattle.lt_modes.specs.Fits.{asks_here, numbers_of}
use Rattle.lt_modes.specs.Sound.{SoundSet}
use Rattle.lt_spec.specs.NodeMove.{home, IsWhole}
use Rattle.lt_spec.specs.Facts.{places_in_state}
use Rattle.lt_law_accounts.specs.Account.{IsFirstDrawing}
use Rattle.lt_law_accounts.proofs.Asks.{times_in-some}
use Rattle.lt_law_accounts.proofs.Drawing.{drawn_by_first}
use Rattle.lt_model.proofs.Effects.{Fact, EndEffects, both, ends_by_effects, finish_by_effects, next_service-within}
use Rattle.lt_model.proofs.Voids.{withdraws_ways}
use Rattle.lt_model.proofs.SentInMove.{Stands, stands}
use Rattle.lt_model.proofs.StandingEffects.{found_here, stands_later}
use Rattle.lt_law_invariant.proofs.ClientEffects.{Clients, clients, clients_ends}
use Rattle.lt_law_invariant.proofs.ClientCommands.{one_for, IsIdle, idle, ActsOf, clients_acts, drops_kept, locked_of, tried_of, unlocked_of, changed_of, withdrawn_of}
use Rattle.lt_law_sound.proofs.Around.{AreKnown, asked_elsewhere, stood_elsewhere, own_asked, stands_first, stands_named}
use Rattle.lt_law_sound.proofs.KeptParts.{Kept, KeptHere, local_kept, copied_kept, frozen_kept, stays_kept, leaves_kept, tells_kept, tells_not_kept}
use Rattle.lt_law_sound.proofs.KeptActs.{given_kept, released_kept, dropped_kept, marked_kept, asked_kept}
use Rattle.lt_law_sound.proofs.SoundParts.{ended, Outcome, outcome, opened, own_asks, known_here, made_here}

-- what holds in the middle of the move of a set
abbrev pub in_move : ScriptData → ℕ → Stamp → (Ask → ℕ) → List Ask → (ℕ → ℕ) → SetState → Fact
in_move script s stamp others asks bonus first =
    both (both (stands s stamp.node stamp.clock others (asked_elsewhere stamp.node asks)) (clients bonus first))
    (λ t posts. Kept script stamp.node true true stamp.clock t)

-- where the desk is here, once it has frozen
abbrev pub in_freeze : ScriptData → ℕ → Stamp → (Ask → ℕ) → List Ask → (ℕ → ℕ) → SetState → Fact
in_freeze script s stamp others asks bonus first =
    both (both (stands s stamp.node stamp.clock others (asked_elsewhere stamp.node asks)) (clients bonus first))
    (λ t posts. KeptHere script stamp.node stamp.clock t)

-- the place of the ask that draws the desk is one of the queue
drawn_within : (me : ℕ) (t : SetState) (k : ℕ) → is_some t.desk ≡ true → next_draw me t ≡ Some k → k < length (queue_of t)
drawn_within me t k here e = by_desk t.desk refl here
  where
    by_desk : (o : Option Desk) → t.desk ≡ o → is_some o ≡ true → k < length (queue_of_desk t.desk)
    by_desk None f h = cc
    by_desk (Some desk) f h =
        let drawn : IsFirstDrawing me t desk (Some k) = subst (IsFirstDrawing me t desk) e (drawn_by_first me t desk f) in
        subst (λ (o : Option Desk). k < length (queue_of_desk o)) (sym f) drawn.0

-- the end of the move
pub sound_ends : (script : ScriptData) (s : ℕ) (stamp : Stamp) (others : Ask → ℕ) (pending asks : List Ask) (bonus : ℕ → ℕ) (first : SetState)
    → IsWhole script → stamp.node < script.nodes → AreKnown script stamp.node pending asks
    → EndEffects s stamp (in_move script s stamp others asks bonus first)
    (in_freeze script s stamp others asks bonus first)
    (ended script s stamp others asks bonus first)
sound_ends script s stamp others pending asks bonus first whole below known = record {
  serves = λ t posts k e h. (own.serves t posts k e h.0, served t posts k e h.0.0 h.1 ((ask_at t k).node == stamp.node) refl);
  freezes = λ t posts desk here none h. (own.freezes t posts desk here none h.0, frozen_kept script stamp.node stamp.clock s stamp t desk here h.1);
  leaves = λ t posts k e h. (
    own.leaves t posts k e h.0,
    leaves_kept script stamp.node stamp.clock s (ask_at t k).node stamp t (drawn t posts k e h.0.0 h.1) h.1,
  );
  stays = λ t posts e h. (h.0, stays_kept script stamp.node stamp.clock t h.1);
  tells = λ t posts away differs h. (own.tells t posts away differs h.0, tells_kept script stamp.clock s stamp t below away h.1);
  tells_not = λ t posts away same h. (h.0, tells_not_kept script stamp.node stamp.clock t away same h.1);
}
  where
    standing : Fact
    standing = stands s stamp.node stamp.clock others (asked_elsewhere stamp.node asks)

    own : EndEffects s stamp (both standing (clients bonus first)) (both standing (clients bonus first)) (both standing (clients bonus first))
    own = clients_ends s stamp others (asked_elsewhere stamp.node asks) bonus first (λ a. own_asked stamp.node asks a)

    some : (t : SetState) (k : ℕ) → k < length (queue_of t) → 1 ≤ places_in_state (ask_at t k) t
    some t k within = omega (arith, times_in-some (ask_at t k) (queue_of t) (Contains-get_or (queue_of t) k no_ask within))

    served : (t : SetState) (posts : List Post) (k : ℕ) → next_service stamp.node t ≡ Some k → standing t posts
        → Kept script stamp.node true true stamp.clock t → (mine : Bool) → ((ask_at t k).node == stamp.node) ≡ mine
        → Kept script stamp.node true true stamp.clock (if mine then serve_local s k t else serve_copy s stamp k (ask_at t k) t).state
    served t posts k e stood h true mine =
        let a = ask_at t k in
        let found =
        found_here s stamp.node stamp.clock others (asked_elsewhere stamp.node asks) t posts a stood (own_asked stamp.node asks a (eqb-true a.node stamp.node mine))
        (omega (arith, some t k (next_service-within stamp.node t k e))) in
        local_kept script stamp.node stamp.clock k true true t found h
    served t posts k e stood h false mine = copied_kept script stamp.node stamp.clock s k true true stamp (ask_at t k) t h

    drawn : (t : SetState) (posts : List Post) (k : ℕ) → next_draw stamp.node t ≡ Some k → standing t posts
        → KeptHere script stamp.node stamp.clock t → (ask_at t k).node < script.nodes
    drawn t posts k e stood h =
        (stands_named script stamp.node s stamp.clock pending asks others t posts (ask_at t k) whole known stood h.0.own
        (some t k (drawn_within stamp.node t k h.1 e))).node

-- A set at the beginning of a command.

-- what is known of the set, which was sound at an earlier clock
pub record Begun (script : ScriptData) (before : ℕ) (stamp : Stamp) (t : SetState) : Type 0 where
  pub whole : IsWhole script
  pub below : stamp.node < script.nodes
  pub next : stamp.clock ≡ before + 1
  pub sound : SoundSet (numbers_of script) stamp.node false false before t
  pub clients : Clients (λ c. 0) t t

-- the node's own asks that aren't there
abbrev pub elsewhere_of : SetState → Ask → ℕ
elsewhere_of t a = stood_elsewhere t.pending (asks_here t) a + 0

begun_stands : (script : ScriptData) (s before : ℕ) (stamp : Stamp) (t : SetState) → Begun script before stamp t
    → Stands s stamp.node before (elsewhere_of t) (asked_elsewhere stamp.node (asks_here t)) t []
begun_stands script s before stamp t h =
    stands_first script stamp.node s before t [] (λ a. 0) (λ a. refl) (known_here script stamp.node before t h.sound)
    (own_asks script stamp.node before t h.sound) (made_here script stamp.node before t h.sound) h.sound.stamps_apart

begun_kept : (script : ScriptData) (before : ℕ) (stamp : Stamp) (t : SetState) → Begun script before stamp t
    → Kept script stamp.node true true stamp.clock t
begun_kept script before stamp t h = opened script stamp.node before stamp.clock t (omega (arith, h.next)) h.sound

ends_of : (script : ScriptData) (s before : ℕ) (stamp : Stamp) (bonus : ℕ → ℕ) (t : SetState) → Begun script before stamp t
    → EndEffects s stamp (in_move script s stamp (elsewhere_of t) (asks_here t) bonus t)
    (in_freeze script s stamp (elsewhere_of t) (asks_here t) bonus t)
    (ended script s stamp (elsewhere_of t) (asks_here t) bonus t)
ends_of script s before stamp bonus t h =
    sound_ends script s stamp (elsewhere_of t) t.pending (asks_here t) bonus t h.whole h.below (known_here script stamp.node before t h.sound)

done : (script : ScriptData) (s before : ℕ) (stamp : Stamp) (bonus : ℕ → ℕ) (t u : SetState) (posts : List Post) → Begun script before stamp t
    → ended script s stamp (elsewhere_of t) (asks_here t) bonus t u posts → Outcome script stamp.node stamp.clock bonus t u
done script s before stamp bonus t u posts h e =
    outcome script s stamp (elsewhere_of t) t.pending (asks_here t) bonus t u posts h.whole (known_here script stamp.node before t h.sound) e

-- the end of a move alone
pub finish_outcome : (script : ScriptData) (s before : ℕ) (stamp : Stamp) (t : SetState) → Begun script before stamp t
    → Outcome script stamp.node stamp.clock (λ c. 0) t (finish s stamp t).state
finish_outcome script s before stamp t h =
    done script s before stamp (λ c. 0) t (finish s stamp t).state _ h
    (finish_by_effects s stamp _ _ _ (ends_of script s before stamp (λ c. 0) t h) t [] (
      (
        stands_later s stamp.node before stamp.clock (elsewhere_of t) (asked_elsewhere stamp.node (asks_here t)) t [] (omega (arith, h.next))
            (begun_stands script s before stamp t h),
        h.clients,
      ),
      begun_kept script before stamp t h,
    ))

-- the locks of a client that waits for nothing are dropped
pub drop_outcome : (script : ScriptData) (s before other : ℕ) (stamp : Stamp) (t : SetState) → IsIdle other t → Begun script before stamp t
    → Outcome script stamp.node stamp.clock (λ c. 0) t (drop s stamp other t).state
drop_outcome script s before other stamp t none h =
    let stood = stands_later s stamp.node before stamp.clock (elsewhere_of t) (asked_elsewhere stamp.node (asks_here t)) t [] (omega (arith, h.next))
    (begun_stands script s before stamp t h) in
    done script s before stamp (λ c. 0) t (drop s stamp other t).state _ h
    (finish_by_effects s stamp _ _ _ (ends_of script s before stamp (λ c. 0) t h) (dropped other t) [] (
      (record { once = stood.once; own = stood.own; apart = stood.apart; copies = stood.copies }, drops_kept other t t (h.clients, none)),
      dropped_kept script stamp.node stamp.clock other true true t (begun_kept script before stamp t h),
    ))

-- a client gives up what another one, or it itself, waits for
pub withdraw_outcome : (script : ScriptData) (s before client other : ℕ) (stamp : Stamp) (t : SetState) → Begun script before stamp t
    → Outcome script stamp.node stamp.clock (λ c. 0) t (withdraw s stamp client other t).state
withdraw_outcome script s before client other stamp t h =
    done script s before stamp (λ c. 0) t (withdraw s stamp client other t).state _ h
    (ends_by_effects s stamp _ _ _ (ends_of script s before stamp (λ c. 0) t h) (withdrawn s client other t) [] (
      withdrawn_of s before stamp client other (elsewhere_of t) (asked_elsewhere stamp.node (asks_here t)) t h.next t [] (begun_stands script s before stamp t h, h.clients),
      withdraws_ways (λ (m : Made). Kept script stamp.node true true stamp.clock m.state) s client other t
          (λ waiting. marked_kept script stamp.node stamp.clock true true (other ∷ t.gone) t (begun_kept script before stamp t h))
          (λ idle_there. begun_kept script before stamp t h),
    ))

-- A command of a client that waits for nothing there.

pub record CommandsDone (script : ScriptData) (s : ℕ) (stamp : Stamp) (client : ℕ) (t : SetState) : Type 0 where
  pub locks : (mode : Mode) → Outcome script stamp.node stamp.clock (one_for client) t (lock s stamp client mode t).state
  pub tries : (mode : Mode) → Outcome script stamp.node stamp.clock (one_for client) t (try s stamp client mode t).state
  pub unlocks : (mode : Mode) → Outcome script stamp.node stamp.clock (one_for client) t (unlock s stamp client mode t).state
  pub changes : (gives_up mode : Mode) → Outcome script stamp.node stamp.clock (one_for client) t (change s stamp client gives_up mode t).state

-- what holds before it
abbrev before_it : ScriptData → ℕ → ℕ → Stamp → (Ask → ℕ) → List Ask → ℕ → SetState → Fact
before_it script s before stamp others asks client first =
    both (both (stands s stamp.node before others (asked_elsewhere stamp.node asks)) (idle client first))
    (λ t posts. Kept script stamp.node true true stamp.clock t)

sound_acts : (script : ScriptData) (s before client : ℕ) (stamp : Stamp) (others : Ask → ℕ) (asks : List Ask) (first : SetState)
    → stamp.node < script.nodes → stamp.clock ≡ before + 1 → client < length script.clients → home script client ≡ stamp.node
    → ActsOf s stamp client (before_it script s before stamp others asks client first) (in_move script s stamp others asks (one_for client) first)
sound_acts script s before client stamp others asks first below next known own = record {
  nothing = λ t posts h. (acts.nothing t posts h.0, h.1);
  grants = λ mode t posts h. (acts.grants mode t posts h.0, given_kept script stamp.node stamp.clock client true true mode None t known own h.1);
  changes = λ gives_up mode t posts h. (
    acts.changes gives_up mode t posts h.0,
    given_kept script stamp.node stamp.clock client true true mode (Some gives_up) t known own h.1,
  );
  releases = λ mode t posts h. (acts.releases mode t posts h.0, released_kept script stamp.node stamp.clock client true true mode t h.1);
  retakes = λ mode gives_up t posts same holds h. (
    acts.retakes mode gives_up t posts same holds h.0,
    marked_kept script stamp.node stamp.clock true true (without_gone t.gone client) t h.1,
  );
  asks = λ mode t posts free h. (acts.asks mode t posts free h.0, asked_kept script stamp.clock s client true true stamp mode None t known own below h.1);
  change_asks = λ gives_up mode t posts holds free h. (
    acts.change_asks gives_up mode t posts holds free h.0,
    asked_kept script stamp.clock s client true true stamp mode (Some gives_up) t known own below h.1,
  );
}
  where
    standing : ℕ → Fact
    standing clock = stands s stamp.node clock others (asked_elsewhere stamp.node asks)

    acts : ActsOf s stamp client (both (standing before) (idle client first)) (both (standing stamp.clock) (clients (one_for client) first))
    acts = clients_acts s before stamp client others (asked_elsewhere stamp.node asks) first next

pub commands_outcome : (script : ScriptData) (s before client : ℕ) (stamp : Stamp) (t : SetState) → client < length script.clients
    → home script client ≡ stamp.node → IsIdle client t → Begun script before stamp t → CommandsDone script s stamp client t
commands_outcome script s before client stamp t known own none h = record {
  locks = λ mode. done script s before stamp (one_for client) t (lock s stamp client mode t).state _ h
      (ends_by_effects s stamp _ _ _ ends (locked s stamp client mode t) [] (locked_of s stamp client _ _ acts mode t [] begun));
  tries = λ mode. done script s before stamp (one_for client) t (try s stamp client mode t).state _ h
      (ends_by_effects s stamp _ _ _ ends (tried s stamp client mode t) [] (tried_of s stamp client _ _ acts mode t [] begun));
  unlocks = λ mode. done script s before stamp (one_for client) t (unlock s stamp client mode t).state _ h
      (ends_by_effects s stamp _ _ _ ends (unlocked s client mode t) [] (unlocked_of s stamp client _ _ acts mode t [] begun));
  changes = λ gives_up mode. done script s before stamp (one_for client) t (change s stamp client gives_up mode t).state _ h
      (ends_by_effects s stamp _ _ _ ends (changed s stamp client gives_up mode t) [] (changed_of s stamp client _ _ acts gives_up mode t [] begun));
}
  where
    ends : EndEffects s stamp (in_move script s stamp (elsewhere_of t) (asks_here t) (one_for client) t)
        (in_freeze script s stamp (elsewhere_of t) (asks_here t) (one_for client) t)
        (ended script s stamp (elsewhere_of t) (asks_here t) (one_for client) t)
    ends = ends_of script s before stamp (one_for client) t h

    acts : ActsOf s stamp client (before_it script s before stamp (elsewhere_of t) (asks_here t) client t)
        (in_move script s stamp (elsewhere_of t) (asks_here t) (one_for client) t)
    acts = sound_acts script s before client stamp (elsewhere_of t) (asks_here t) t h.below h.next known own

    begun : before_it script s before stamp (elsewhere_of t) (asks_here t) client t t []
    begun = ((begun_stands script s before stamp t h, (h.clients, none)), begun_kept script before stamp t h)
