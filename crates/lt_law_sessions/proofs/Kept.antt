-- What has_after says of a lock that is given and kept.
use Rattle.std.proofs.Common.{◌≡◌, ◌≢◌, ℕ, List, [], ◌∷◌, ◌++◌, length, Bool, true, false, refl, ap, sym, subst₂, arith, Some, None, Option, slice_get, ◌&&◌, ◌||◌, not, ◌==◌, ◌∙◌, ne_eqb, eq-eqb, if◌then◌else◌}
use Rattle.lt_modes.specs.declared.command.Command.{Command}
use Rattle.lt_modes.specs.declared.command.Command.TheVariants.{Lock, Try, Unlock, Change, DropAll, Withdraw}
use Rattle.lt_modes.specs.declared.mode.Mode.{Mode}
use Rattle.lt_modes.specs.Modes.{same_mode}
use Rattle.lt_modes.specs.Script.{ScriptData}
use Rattle.lt_spec.specs.Holdings.{Holding, holding, same_holding}
use Rattle.lt_law_lines.proofs.LineCounts.{same_holding-itself}
use Rattle.lt_live.specs.declared.ends.Session.{Session}
use Rattle.lt_live.specs.declared.reply.Reply.{Reply}
use Rattle.lt_live.specs.declared.reply.Reply.TheVariants.{True, Changed, Granted}
use Rattle.lt_live.specs.Words.{submitted}
use Rattle.lt_law_sessions.specs.SessionLaws.{may_take_away, leaves_locks, took_away, gives, has_after, StillHolds}
use Rattle.lt_law_sessions.specs.HeldStill.{TakingRows, LeavingRows, ReplyRows, OthersTakeNothing, TriedIsHad, ChangedIsHad, HeldBesideOthers, SparesSet, AllSpareSet, IsGranted, NobodyDropped, GrantedExclude}
use Rattle.lt_law_sessions.proofs.Excluding.{sessions_exclude}

pub taking_rows : TakingRows
taking_rows = record {
  lock = λ script client set lock mode. refl;
  tried = λ script client set lock mode. refl;
  given_up = λ script client other set lock. refl;
  unlock = λ script client set lock mode. refl;
  change = λ script client set lock old mode. refl;
  drop = λ script client other set lock. refl;
}

pub leaving_rows : LeavingRows
leaving_rows = record {
  untried = refl;
  not_held = refl;
  busy = refl;
  withdrawn = refl;
  withheld = refl;
  granted = refl;
  tried = refl;
  changed = refl;
  unlocked = refl;
  dropped = λ count. refl;
}

-- the reply goes to this client
to_itself : (client : ℕ) (reply : Reply) → ◌≡◌ {A = Option Reply} (if client == client then Some reply else None) (Some reply)
to_itself client reply = ap (λ (b : Bool). if b then Some reply else None) (eq-eqb client client refl)

pub reply_rows : ReplyRows
reply_rows = record {
  granted = λ client set mode. to_itself client _;
  tried = λ client set mode. to_itself client _;
  untried = λ client set mode. to_itself client _;
  unlocked = λ client set mode. to_itself client _;
  not_held = λ client set mode. to_itself client _;
  changed = λ client set old mode. to_itself client _;
  dropped = λ client other set count. to_itself client _;
}

-- a lock of another client
not_the_same : (client other set s : ℕ) (mode m : Mode) → other ≢ client → same_holding (holding client set mode) (holding other s m) ≡ false
not_the_same client other set s mode m d =
    ap (λ (b : Bool). b && (set == s && same_mode mode m)) (ne_eqb client other (λ e. d (sym e)))

pub others_take_nothing : OthersTakeNothing
others_take_nothing script client other set mode (Lock s m) d no_drop = refl
others_take_nothing script client other set mode (Try s m) d no_drop = refl
others_take_nothing script client other set mode (Withdraw whose s) d no_drop = refl
others_take_nothing script client other set mode (Unlock s m) d no_drop = not_the_same client other set s mode m d
others_take_nothing script client other set mode (Change s old m) d no_drop = not_the_same client other set s mode old d
others_take_nothing script client other set mode (DropAll whose s) d no_drop = absurd no_drop

-- a command at the end whose reply gives the lock
had_at_end : (script : ScriptData) (client : ℕ) (lock : Holding) (command : Command) (reply : Reply) → gives client lock command reply ≡ true
    → (commands : List Command) (replies : List Reply) (has : Bool) → length replies ≡ length commands
    → has_after script client lock (commands ++ command ∷ []) (replies ++ reply ∷ []) has ≡ true
had_at_end script client lock command reply given [] [] has same =
    ap (λ (b : Bool). b || (has && not (took_away script client lock command reply))) given
had_at_end script client lock command reply given [] (r ∷ rs) has same = absurd (omega (arith, same))
had_at_end script client lock command reply given (c ∷ cs) [] has same = absurd (omega (arith, same))
had_at_end script client lock command reply given (c ∷ cs) (r ∷ rs) has same =
    had_at_end script client lock command reply given cs rs
    (gives client lock c r || (has && not (took_away script client lock c r))) (omega (arith, same))

pub tried_is_had : TriedIsHad
tried_is_had client set mode script commands replies same =
    had_at_end script client (holding client set mode) (Try set mode) True (same_holding-itself (holding client set mode)) commands replies false same

pub changed_is_had : ChangedIsHad
changed_is_had client set old mode script commands replies same =
    had_at_end script client (holding client set mode) (Change set old mode) Changed (same_holding-itself (holding client set mode)) commands replies false same

pub held_beside_others : HeldBesideOthers
held_beside_others script sessions client set mode s has spared = record {
  has = has;
  others = λ other t k c d here at. by_command other t k c d here at;
}
  where
    by_command : (other : ℕ) (t : Session) (k : ℕ) (c : Command) → other ≢ client → slice_get sessions other ≡ Some t
        → slice_get (submitted t) k ≡ Some c → may_take_away script other (holding client set mode) c ≡ false
    by_command other t k (DropAll whose from) d here at = spared other whose from k t d here at
    by_command other t k (Lock s m) d here at = refl
    by_command other t k (Try s m) d here at = refl
    by_command other t k (Withdraw whose s) d here at = refl
    by_command other t k (Unlock s m) d here at = not_the_same client other set s mode m d
    by_command other t k (Change s old m) d here at = not_the_same client other set s mode old d

-- a lock of another set
other_set : (client set s : ℕ) (mode m : Mode) → s ≢ set → same_holding (holding client set mode) (holding client s m) ≡ false
other_set client set s mode m d =
    ap (λ (b : Bool). client == client && (b && same_mode mode m)) (ne_eqb set s (λ e. d (sym e)))
    ∙ ap (λ (b : Bool). b && false) (eq-eqb client client refl)

-- a command that spares the set takes no lock of it
spares : (script : ScriptData) (client set : ℕ) (mode : Mode) (c : Command) → SparesSet set c
    → may_take_away script client (holding client set mode) c ≡ false
spares script client set mode (Lock s m) h = refl
spares script client set mode (Try s m) h = refl
spares script client set mode (Withdraw other s) h = refl
spares script client set mode (Unlock s m) h = other_set client set s mode m h
spares script client set mode (Change s old m) h = other_set client set s mode old h
spares script client set mode (DropAll other s) h = absurd h

still : (x y : Bool) → x ≡ true → y ≡ false → (x && not y) ≡ true
still x y e f = ap (λ (b : Bool). b && not y) e ∙ ap not f

or_true : (x y : Bool) → y ≡ true → (x || y) ≡ true
or_true true y e = refl
or_true false y e = e

and_false : (x y : Bool) → y ≡ false → (x && y) ≡ false
and_false true y e = e
and_false false y e = refl

-- commands that spare the set leave a lock of it
kept : (script : ScriptData) (client set : ℕ) (mode : Mode) (later : List Command) (more : List Reply) (has : Bool) → has ≡ true
    → AllSpareSet set later → has_after script client (holding client set mode) later more has ≡ true
kept script client set mode [] more has e spared = e
kept script client set mode (c ∷ cs) [] has e spared =
    kept script client set mode cs [] (has && not (may_take_away script client (holding client set mode) c))
    (still has (may_take_away script client (holding client set mode) c) e (spares script client set mode c spared.0)) spared.1
kept script client set mode (c ∷ cs) (r ∷ rs) has e spared =
    let lock = holding client set mode in
    kept script client set mode cs rs (gives client lock c r || (has && not (took_away script client lock c r)))
    (or_true (gives client lock c r) (has && not (took_away script client lock c r))
    (still has (took_away script client lock c r) e
    (and_false (not (leaves_locks r)) (may_take_away script client lock c) (spares script client set mode c spared.0)))) spared.1

-- so does a grant before them
granted : (script : ScriptData) (client set : ℕ) (mode : Mode) (later : List Command) (more : List Reply) → AllSpareSet set later
    → (before : List Command) (told : List Reply) (has : Bool) → length told ≡ length before
    → has_after script client (holding client set mode) (before ++ Lock set mode ∷ later) (told ++ Granted ∷ more) has ≡ true
granted script client set mode later more spared [] [] has same =
    kept script client set mode later more (same_holding (holding client set mode) (holding client set mode) || (has && not false))
    (ap (λ (b : Bool). b || (has && not false)) (same_holding-itself (holding client set mode))) spared
granted script client set mode later more spared [] (r ∷ rs) has same = absurd (omega (arith, same))
granted script client set mode later more spared (c ∷ cs) [] has same = absurd (omega (arith, same))
granted script client set mode later more spared (c ∷ cs) (r ∷ rs) has same =
    granted script client set mode later more spared cs rs
    (gives client (holding client set mode) c r || (has && not (took_away script client (holding client set mode) c r))) (omega (arith, same))

-- it is held still
still_granted : (script : ScriptData) (sessions : List Session) (client set : ℕ) (mode : Mode) (s : Session) → NobodyDropped sessions
    → IsGranted s set mode → StillHolds script sessions client s (holding client set mode)
still_granted script sessions client set mode s nobody is =
    held_beside_others script sessions client set mode s
    (subst₂ (λ (commands : List Command) (replies : List Reply). has_after script client (holding client set mode) commands replies false ≡ true)
    (sym is.asked) (sym is.answered) (granted script client set mode is.later is.more is.spared is.before is.told false is.as_many))
    (λ other whose from k t d here at. absurd (nobody other k t (DropAll whose from) here at))

pub granted_exclude : GrantedExclude
granted_exclude first script sessions run served count nobody a b set s t m n apart here there one two =
    sessions_exclude first script sessions run served count a b s t apart here there set m n
    (still_granted first sessions a set m s nobody one) (still_granted first sessions b set n t nobody two)
