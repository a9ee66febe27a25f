-- Each part of the promise, opened.
use Rattle.std.proofs.Common.{take, subst, refl}
use Rattle.lt_modes.specs.declared.event.Event.TheVariants.{Try as TryLine}
use Rattle.lt_spec.specs.World.{world_after}
use Rattle.lt_spec.specs.Promised.{IsOwnAnswer, IsInTurn}
use Rattle.lt_law_opened.specs.PromiseOpened.{HeldLocksAgree, HeldIsTold, TokensAreOne, AsksAreOnce, OpenWaitsAreTold, LinesTellWhether, FirstIsBarred, AsksLedAtRest, HoldersAreTold, MovesEndServed, MovesServeInTurn, TriesTellOwn}
use Rattle.lt_law_opened.specs.WaitsOpened.{EndedIsIdle, EndedHasNone, IdleHasEnded, HolderConflicts, ConflictHoldsUp, RingIsOfScript}

pub held_locks_agree : HeldLocksAgree
held_locks_agree script run p k = (p.moments k).lawful

pub held_is_told : HeldIsTold
held_is_told script run p k client s mode below inside = (p.moments k).held client s mode below inside

pub tokens_are_one : TokensAreOne
tokens_are_one script run p k s = (p.moments k).one_token s

pub asks_are_once : AsksAreOnce
asks_are_once script run p k s x ask = (p.moments k).one_place s x ask

pub open_waits_are_told : OpenWaitsAreTold
open_waits_are_told script run p k client s mode = (p.moments k).waits client s mode

pub lines_tell_whether : LinesTellWhether
lines_tell_whether script run p k = (p.moments k).somebody

pub first_is_barred : FirstIsBarred
first_is_barred script run p k s ask rest within = ((p.moments k).at_rest rest).first s ask within

pub asks_led_at_rest : AsksLedAtRest
asks_led_at_rest script run p k s x ask rest = ((p.moments k).at_rest rest).led s x ask

pub holders_are_told : HoldersAreTold
holders_are_told script run p k s x row rest within known here =
    let f = ((p.moments k).at_rest rest).frozen s x row within known here in (f.0, f.1, f.2.0, f.2.1, f.3)

pub moves_end_served : MovesEndServed
moves_end_served script run k s q step t = (t.promised.in_turn k s q step t.enabled t.touched).ends

pub moves_serve_in_turn : MovesServeInTurn
moves_serve_in_turn script run k s q step t j service here =
    subst IsInTurn here.2 ((t.promised.in_turn k s q step t.enabled t.touched).in_turn here.0 service here.1) j

pub tries_tell_own : TriesTellOwn
tries_tell_own script run p k client s entry mode got here line =
    subst (IsOwnAnswer script (world_after script (take k run))) line.2
    (p.tries k entry here line.0 (TryLine client s mode got) line.1)

pub ended_is_idle : EndedIsIdle
ended_is_idle script w client h = h.waits

pub ended_has_none : EndedHasNone
ended_has_none script w client h = h.commands

pub idle_has_ended : IdleHasEnded
idle_has_ended script w client idle none = record { waits = idle; commands = none }

pub holder_conflicts : HolderConflicts
holder_conflicts script lines w waiter client h = (h.lock, h.mode, h.held, h.holder, h.wanted, h.conflict)

pub conflict_holds_up : ConflictHoldsUp
conflict_holds_up script lines w waiter lock mode held wanted conflict =
    record { lock = lock; mode = mode; held = held; holder = refl; wanted = wanted; conflict = conflict }

pub ring_is_of_script : RingIsOfScript
ring_is_of_script script w h = h
