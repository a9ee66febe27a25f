-- Each move of a sound node leaves it sound.
use Rattle.std.proofs.Common.{◌≡◌, ◌≢◌, ℕ, ◌+◌, ◌<◌, ◌≤◌, inl, inr, [], length, Option, Some, None, Bool, true, false, refl, sym, ap, subst, arith, ◌∙◌, ◌⊎◌, ◌==◌, ◌||◌, not, if◌then◌else◌, count_by, eq-eqb, ne_eqb}
use Rattle.std.specs.List.{AllByRecursion}
use Rattle.std.proofs.lemmas.Bool.{cases_eq, and_parts}
use Rattle.lt_modes.specs.declared.stamp.Stamp.{Stamp}
use Rattle.lt_modes.specs.declared.command.Command.{Command}
use Rattle.lt_modes.specs.declared.command.Command.TheVariants.{Lock, Unlock, Try, Change, DropAll, Withdraw}
use Rattle.lt_modes.specs.Script.{ScriptData}
use Rattle.lt_modes.specs.State.{SetState}
use Rattle.lt_modes.specs.Serving.{is_gone}
use Rattle.lt_modes.specs.SetMove.{finish, lock, try, unlock, change, drop, withdraw}
use Rattle.lt_modes.specs.Taking.{take}
use Rattle.lt_modes.specs.Fits.{head_fits, body_fits, numbers_of}
use Rattle.lt_modes.specs.Sound.{SoundSet}
use Rattle.lt_lists.specs.Below.{put}
use Rattle.lt_lists.proofs.Puts.{put-same, put-other}
use Rattle.lt_lists.proofs.Sums.{sum_below-none}
use Rattle.lt_spec.specs.NodeMove.{home, related, NodeState, node_waits, is_free_at, withdraws_itself, has_command, next_command, act_stamp, take_stamp, at_clock, one_made, drop_all, obey, node_take, IsWhole, HasTargetsAt}
use Rattle.lt_model.specs.Invariant.{unanswered_asks, SoundNode}
use Rattle.lt_model.proofs.Effects.{Fact}
use Rattle.lt_model.proofs.NodeEffects.{obey-stamped, each-beside, IsOnce, once_or_aside, each_by_effects}
use Rattle.lt_model.proofs.HomesMove.{next_targets}
use Rattle.lt_model.proofs.SentInMove.{finish-sent, drop-sent}
use Rattle.lt_model.proofs.StartKept.{start_kept}
use Rattle.lt_law_invariant.proofs.ClientEffects.{live_by}
use Rattle.lt_law_invariant.proofs.ClientCommands.{one_for}
use Rattle.lt_law_invariant.proofs.ClientMoves.{bonus_at, bonus_of, node_after, at_first, idle_in}
use Rattle.lt_law_sound.specs.SoundLaws.{CommandsKeepSound, TakesKeepSound, SoundAtStart, SoundInWorlds}
use Rattle.lt_law_sound.proofs.MadeCounts.{obey_counts}
use Rattle.lt_law_sound.proofs.NodeParts.{clients_of, widened, untouched, one_touched}
use Rattle.lt_law_sound.proofs.SoundParts.{Outcome, sound_later}
use Rattle.lt_law_sound.proofs.SetMoves.{Begun, CommandsDone, finish_outcome, drop_outcome, withdraw_outcome, commands_outcome}
use Rattle.lt_law_sound.proofs.TakeMoves.{HeadTold, head_told, Taken, take_outcome}

-- A command.

-- a client that may make a command, and the node
record Acting (script : ScriptData) (q client : ℕ) (n : NodeState) : Type 0 where
  whole : IsWhole script
  below : q < script.nodes
  known : client < length script.clients
  own : home script client ≡ q
  sound : SoundNode script q n

-- the node as the command begins
abbrev begins : ℕ → NodeState → NodeState
begins client n = one_made client (at_clock (n.clock + 1) n)

begun_of : (script : ScriptData) (q client s : ℕ) (n : NodeState) → Acting script q client n → s < length script.sets
    → Begun script n.clock (act_stamp q n) (n.set s)
begun_of script q client s n a under = record {
  whole = a.whole;
  below = a.below;
  next = refl;
  sound = a.sound.sets s under;
  clients = at_first script n (clients_of script q n a.sound) s under;
}

commands_of_set : (script : ScriptData) (q client s : ℕ) (n : NodeState) → Acting script q client n → node_waits script n client ≡ false
    → s < length script.sets → CommandsDone script s (act_stamp q n) client (n.set s)
commands_of_set script q client s n a none under =
    commands_outcome script s n.clock client (act_stamp q n) (n.set s) a.known a.own (idle_in script n client none s under)
    (begun_of script q client s n a under)

-- what each set of the node is after the command, and which one may have more
abbrev Each : (script : ScriptData) (q : ℕ) (bonus : ℕ → ℕ) (n later : NodeState) → ℕ → Type 0
Each script q bonus n later set = (s : ℕ) → s < length script.sets → Outcome script q (n.clock + 1) (bonus_at set bonus s) (n.set s) (later.set s)

-- all locks of a client are dropped in a family, or none where it waits
drops_each : (script : ScriptData) (q client other set : ℕ) (n : NodeState) → Acting script q client n
    → Each script q (one_for client) n (drop_all (node_waits script (begins client n) other) (act_stamp q n) client other set (related script set) (begins client n)).node 0
drops_each script q client other set n a s under =
    widened script q (n.clock + 1) (λ c. 0) (bonus_at 0 (one_for client) s) (n.set s) _ (λ c. omega arith)
    (by_waits (node_waits script (begins client n) other) refl (once_or_aside script s (Some (DropAll other set))))
  where
    stamp : Stamp
    stamp = act_stamp q n

    as_first : Fact
    as_first t posts = t ≡ n.set s

    ended : Fact
    ended t posts = Outcome script q (n.clock + 1) (λ c. 0) (n.set s) t

    stays : Outcome script q (n.clock + 1) (λ c. 0) (n.set s) (n.set s)
    stays = untouched script q (n.clock + 1) s n (omega arith) a.sound under

    finished : (t : SetState) → t ≡ n.set s → Outcome script q (n.clock + 1) (λ c. 0) (n.set s) (finish s stamp t).state
    finished t e = subst (λ (u : SetState). Outcome script q (n.clock + 1) (λ c. 0) (n.set s) (finish s stamp u).state) (sym e)
        (finish_outcome script s n.clock stamp (n.set s) (begun_of script q client s n a under))

    dropped_off : node_waits script n other ≡ false → (t : SetState) → t ≡ n.set s
        → Outcome script q (n.clock + 1) (λ c. 0) (n.set s) (drop s stamp other t).state
    dropped_off none t e = subst (λ (u : SetState). Outcome script q (n.clock + 1) (λ c. 0) (n.set s) (drop s stamp other u).state) (sym e)
        (drop_outcome script s n.clock other stamp (n.set s) (idle_in script n other none s under) (begun_of script q client s n a under))

    by_waits : (waiting : Bool) → node_waits script (begins client n) other ≡ waiting
        → IsOnce s (related script set) ⊎ AllByRecursion (λ k. k ≢ s) (related script set)
        → Outcome script q (n.clock + 1) (λ c. 0) (n.set s) ((drop_all waiting stamp client other set (related script set) (begins client n)).node.set s)
    by_waits true e (inl once) =
        each_by_effects s stamp as_first ended (λ t posts more others h. h) (λ t posts more others h. h) (λ k t. finish k stamp t)
        (λ k t. finish-sent k stamp t) (λ t posts f. finished t f) (related script set) once (begins client n) [] refl
    by_waits true e (inr aside) =
        subst (Outcome script q (n.clock + 1) (λ c. 0) (n.set s)) (sym (each-beside s stamp (λ k. finish k stamp) (λ k t. finish-sent k stamp t)
        (related script set) aside (begins client n)).state) stays
    by_waits false e (inl once) =
        each_by_effects s stamp as_first ended (λ t posts more others h. h) (λ t posts more others h. h) (λ k t. drop k stamp other t)
        (λ k t. drop-sent k stamp other t) (λ t posts f. dropped_off e t f) (related script set) once (begins client n) [] refl
    by_waits false e (inr aside) =
        subst (Outcome script q (n.clock + 1) (λ c. 0) (n.set s)) (sym (each-beside s stamp (λ k. drop k stamp other) (λ k t. drop-sent k stamp other t)
        (related script set) aside (begins client n)).state) stays

obeys_each : (script : ScriptData) (q client : ℕ) (n : NodeState) (command : Command) → Acting script q client n
    → (withdraws_itself n client (Some command) ≡ false → node_waits script n client ≡ false) → HasTargetsAt script client command
    → (set : ℕ) × Each script q (bonus_of client command) n (obey script (act_stamp q n) client (Some command) (begins client n)).node set
obeys_each script q client n (Lock set mode) a idle under = (
  set,
  one_touched script q (n.clock + 1) set (one_for client) n (lock set (act_stamp q n) client mode (n.set set)) (omega arith) a.sound
      ((commands_of_set script q client set n a (idle refl) under).locks mode),
)
obeys_each script q client n (Try set mode) a idle under = (
  set,
  one_touched script q (n.clock + 1) set (one_for client) n (try set (act_stamp q n) client mode (n.set set)) (omega arith) a.sound
      ((commands_of_set script q client set n a (idle refl) under).tries mode),
)
obeys_each script q client n (Unlock set mode) a idle under = (
  set,
  one_touched script q (n.clock + 1) set (one_for client) n (unlock set (act_stamp q n) client mode (n.set set)) (omega arith) a.sound
      ((commands_of_set script q client set n a (idle refl) under).unlocks mode),
)
obeys_each script q client n (Change set gives_up mode) a idle under = (
  set,
  one_touched script q (n.clock + 1) set (one_for client) n (change set (act_stamp q n) client gives_up mode (n.set set)) (omega arith) a.sound
      ((commands_of_set script q client set n a (idle refl) under).changes gives_up mode),
)
obeys_each script q client n (DropAll other set) a idle targets = (0, drops_each script q client other set n a)
obeys_each script q client n (Withdraw other set) a idle targets = (
  set,
  one_touched script q (n.clock + 1) set (λ c. 0) n (withdraw set (act_stamp q n) client other (n.set set)) (omega arith) a.sound
      (withdraw_outcome script set n.clock client other (act_stamp q n) (n.set set) (begun_of script q client set n a targets.0)),
)

-- How many commands clients have made.

-- the client has made one command more, the others as many
counts_one : (client : ℕ) (n : NodeState) (c : ℕ) → (begins client n).made c ≡ n.made c + one_for client c
counts_one client n c = elim (cases_eq c client) [
  | inl e ↦
      let one : ◌≡◌ {A = ℕ} (if client == c then 1 else 0) 1 = ap (λ (b : Bool). if b then 1 else 0) (eq-eqb client c (sym e)) in
      omega (arith, one, ap n.made e, ap (put n.made client (n.made client + 1)) e, put-same n.made client (n.made client + 1))
  | inr d ↦
      let none : ◌≡◌ {A = ℕ} (if client == c then 1 else 0) 0 = ap (λ (b : Bool). if b then 1 else 0) (ne_eqb client c (λ e. d (sym e))) in
      omega (arith, none, put-other n.made client (n.made client + 1) c d)
]

is_not : (b : Bool) → not b ≡ true → b ≡ false
is_not true e = sym e
is_not false e = refl

pub commands_keep_sound : CommandsKeepSound
commands_keep_sound script q client n whole h may = by_command (next_command script n client) refl
  where
    a : Acting script q client n
    a = record {
      whole = whole;
      below = subst (λ (x : ℕ). x < script.nodes) may.own (whole.homes client may.known);
      known = may.known;
      own = may.own;
      sound = h;
    }

    alone : (first second : Bool) → second ≡ false → (first || second) ≡ true → first ≡ true
    alone true second e f = refl
    alone false true e f = cc
    alone false false e f = cc

    waits_not : withdraws_itself n client (next_command script n client) ≡ false → node_waits script n client ≡ false
    waits_not other =
        is_not (node_waits script n client)
        (alone (not (node_waits script n client)) _ other (and_parts (is_free_at script n client) (has_command script n client) may.runnable).0)

    none_asked : node_waits script n client ≡ false → unanswered_asks script n client ≡ 0
    none_asked none =
        sum_below-none (length script.sets) (λ s. count_by (live_by (is_gone (n.set s) client) client) (n.set s).pending)
        (λ s under. idle_in script n client none s under)

    free : node_waits script n client ≡ false → (c : ℕ) → (one_for client c ≡ 0) ⊎ ((one_for client c ≤ 1) × (unanswered_asks script n c ≡ 0))
    free none c = elim (cases_eq client c) [
      | inl e ↦
          let one : ◌≡◌ {A = ℕ} (if client == c then 1 else 0) 1 = ap (λ (b : Bool). if b then 1 else 0) (eq-eqb client c e) in
          inr (omega (arith, one), subst (λ (x : ℕ). unanswered_asks script n x ≡ 0) e (none_asked none))
      | inr d ↦ inl (ap (λ (b : Bool). if b then 1 else 0) (ne_eqb client c d))
    ]

    least : (command : Command) (c : ℕ) → bonus_of client command c ≤ one_for client c
    least (Lock s mode) c = omega arith
    least (Try s mode) c = omega arith
    least (Unlock s mode) c = omega arith
    least (Change s gives_up mode) c = omega arith
    least (DropAll other s) c = omega arith
    least (Withdraw other s) c = omega arith

    free_by : (command : Command) → (withdraws_itself n client (Some command) ≡ false → node_waits script n client ≡ false)
        → (c : ℕ) → (bonus_of client command c ≡ 0) ⊎ ((bonus_of client command c ≤ 1) × (unanswered_asks script n c ≡ 0))
    free_by (Lock s mode) none c = free (none refl) c
    free_by (Try s mode) none c = free (none refl) c
    free_by (Unlock s mode) none c = free (none refl) c
    free_by (Change s gives_up mode) none c = free (none refl) c
    free_by (DropAll other s) none c = free (none refl) c
    free_by (Withdraw other s) none c = inl refl

    by_command : (command : Option Command) → next_command script n client ≡ command
        → SoundNode script q (obey script (act_stamp q n) client command (begins client n)).node
    by_command None e = record {
      sets = λ s under. sound_later script q n.clock (n.clock + 1) (n.set s) (omega arith) (h.sets s under);
      clients = record { one_ask = h.clients.one_ask; counts = λ c. omega (arith, h.clients.counts c, counts_one client n c) };
    }
    by_command (Some command) e =
        let made = obey script (act_stamp q n) client (Some command) (begins client n) in
        let idle : withdraws_itself n client (Some command) ≡ false → node_waits script n client ≡ false =
        λ other. waits_not (ap (withdraws_itself n client) e ∙ other) in
        let each = obeys_each script q client n command a idle (next_targets script n client command whole e) in
        record {
          sets = λ s under. subst (λ (clock : ℕ). SoundSet (numbers_of script) q false false clock (made.node.set s))
              (sym (obey-stamped script (act_stamp q n) client (Some command) (begins client n)).clock) (each.1 s under).sound;
          clients = (node_after script n made.node each.0 (bonus_of client command) (clients_of script q n h) (λ s under. (each.1 s under).clients)
              (λ c. omega (arith, counts_one client n c, obey_counts script (act_stamp q n) client (Some command) (begins client n) c, least command c))
              (free_by command idle)).kept;
        }

-- A letter.

pub takes_keep_sound : TakesKeepSound
takes_keep_sound script q letter n whole below h fit = record {
  sets = λ s under. (each s under).sound;
  clients = (node_after script n (node_take q letter n).node letter.set (λ c. 0) (clients_of script q n h) (λ s under. (each s under).clients)
      (λ c. omega arith) (λ c. inl refl)).kept;
}
  where
    stamp : Stamp
    stamp = take_stamp q n letter

    parts : (head_fits (numbers_of script) n.clock letter ≡ true) × (body_fits (numbers_of script) q (n.set letter.set) letter.stamp.clock letter.body ≡ true)
    parts = and_parts (head_fits (numbers_of script) n.clock letter) _ fit

    head : HeadTold script letter
    head = head_told script n.clock letter parts.0

    taken : Taken script n.clock stamp letter (n.set letter.set)
    taken = record {
      whole = whole;
      below = below;
      later = omega arith;
      letter_before = omega arith;
      sound = h.sets letter.set head.set;
      clients = at_first script n (clients_of script q n h) letter.set head.set;
      head = head;
      body = parts.1;
    }

    each : (s : ℕ) → s < length script.sets → Outcome script q stamp.clock (bonus_at letter.set (λ c. 0) s) (n.set s) ((node_take q letter n).node.set s)
    each s under = one_touched script q stamp.clock letter.set (λ c. 0) n (take stamp letter (n.set letter.set)) (omega arith) h
        (take_outcome script n.clock stamp letter (n.set letter.set) taken) s under

-- The start, and worlds.

pub sound_in_worlds : SoundInWorlds
sound_in_worlds script w q h below = record { sets = λ s under. (h.sets s under).states q below; clients = h.clients q below }

pub sound_at_start : SoundAtStart
sound_at_start script q whole below = sound_in_worlds script _ q (start_kept script whole.some_node) below
