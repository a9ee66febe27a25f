-- Worked examples: a script, a run of it to its end, and who holds, waits and owns then.
use Rattle.std.specs.Prelude.{◌≡◌, Bool, true, false, ◌+◌, not, ℕ, List, [], ◌∷◌, length, map, filter_map, sum_by, codes}
use Rattle.std.specs.List.{range_with_len}
use Rattle.lt_modes.specs.declared.mode.Mode.{Mode}
use Rattle.lt_modes.specs.declared.moves.Step.TheVariants.{Act, Take}
use Rattle.lt_modes.specs.declared.event.Event.{Event}
use Rattle.lt_modes.specs.declared.parts.Link.{Link}
use Rattle.lt_modes.specs.declared.ask.Ask.{Ask}
use Rattle.lt_modes.specs.Serving.{queue_of}
use Rattle.lt_modes.specs.Fits.{parked_asks}
use Rattle.lt_modes.specs.Script.{ScriptData, SetData, ClientData}
use Rattle.lt_modes.specs.declared.mode.Mode.TheVariants.{IntentionRead, Read, Upgrade, IntentionWrite, ReadIntentionWrite, Write}
use Rattle.lt_modes.specs.declared.command.Command.TheVariants.{Lock, Unlock, Change}
use Rattle.lt_modes.specs.declared.event.Event.TheVariants.{Grant, Wait, Unlock as Unlocked, Change as Changed, Copy, Freeze, Token}
use Rattle.lt_modes.specs.Modes.{modes_in}
use Rattle.lt_spec.specs.World.{Logged, World, world_after, is_at_rest, anyone_waits}
use Rattle.lt_spec.specs.FixedOrder.{first_run, turns_of, made_in_turn}
use Rattle.lt_spec.specs.Holdings.{Holding, holding, holdings, times_held, wanted, owner_of, lines_of}

-- a lock, and how often it is held
pub record Count : Type 0 where
  pub lock : Holding
  pub count : ℕ

-- a script and the moves of a run of it; at its end, the counts that are held, what the waiting clients want,
-- in order of the clients, and each set's last owner with the epoch
pub record Worked : Type 0 where
  pub script : ScriptData
  pub run : List Logged
  pub held : List Count
  pub waiting : List Holding
  pub owners : List Link

abbrev pub declared_set : List ℕ → ℕ → SetData
declared_set name family = record { name = name; family = family }

abbrev pub declared_client : List ℕ → ℕ → ClientData
declared_client name node = record { name = name; node = node }

-- a script of version 1 with one set, and neither a client nor a command yet
abbrev pub one_set : ℕ → List ℕ → ScriptData
one_set nodes name =
    record { version = 1; nodes = nodes; sets = declared_set name 0 ∷ []; clients = []; commands = [] }

-- at this clock the node makes the next command of the client
abbrev pub act : ℕ → ℕ → ℕ → List Event → Logged
act clock node client events =
    record { made = record { stamp = record { clock = clock; node = node }; step = Act client }; events = events }

-- at this clock the node takes the front letter of the sender
abbrev pub taken_at : ℕ → ℕ → ℕ → List Event → Logged
taken_at clock node from events =
    record { made = record { stamp = record { clock = clock; node = node }; step = Take from }; events = events }

abbrev pub holds : ℕ → ℕ → Mode → ℕ → Count
holds client set mode count = record { lock = holding client set mode; count = count }

abbrev pub owner : ℕ → ℕ → Link
owner node epoch = record { node = node; epoch = epoch }

abbrev pub is_none_of : List Holding → Bool
is_none_of [] = true
is_none_of (lock ∷ rest) = false

-- how often the lines of the run leave the lock held
abbrev pub count_in : Worked → Count → Count
count_in row held = record held { count = times_held (holdings row.script (lines_of row.run)) held.lock }

-- what the clients wait for after the run, in order
abbrev pub all_wanted : Worked → List Holding
all_wanted row =
    filter_map (λ client. wanted client (lines_of row.run)) (range_with_len 0 (length row.script.clients))

abbrev pub all_owners : Worked → List Link
all_owners row = map (λ s. owner_of s (lines_of row.run)) (range_with_len 0 (length row.script.sets))

-- after the run no move is enabled, and all is held, wanted and owned as the example says
pub record EndsSo (row : Worked) : Type 0 where
  pub rest : is_at_rest row.script (world_after row.script row.run) ≡ true
  pub held : map (count_in row) row.held ≡ row.held
  pub all_held : length (holdings row.script (lines_of row.run)) ≡ sum_by (λ (held : Count). held.count) row.held
  pub waiting : all_wanted row ≡ row.waiting
  pub waits : anyone_waits row.script (world_after row.script row.run) ≡ not (is_none_of row.waiting)
  pub owners : all_owners row ≡ row.owners

-- the first enabled move, again and again, gives this run to its end
abbrev pub IsFirstRun : Worked → Type 0
IsFirstRun row = (first_run row.script (length row.run + 1) ≡ row.run) × EndsSo row

-- these moves in this order are enabled in turn, with these stamps and lines, to the end
abbrev pub IsWholeRun : Worked → Type 0
IsWholeRun row = (made_in_turn row.script (turns_of row.run) ≡ row.run) × EndsSo row

abbrev pub end_of : Worked → World
end_of row = world_after row.script row.run

abbrev pub ask_clients : List Ask → List ℕ
ask_clients asks = map (λ (ask : Ask). ask.client) asks

-- the clients whose asks are in the queue of the set's desk at node q
abbrev pub queued_clients : World → ℕ → ℕ → List ℕ
queued_clients w s q = ask_clients (queue_of ((w.node q).set s))

-- the clients whose asks are parked at node q
abbrev pub parked_clients : World → ℕ → ℕ → List ℕ
parked_clients w s q = ask_clients (parked_asks ((w.node q).set s))

-- Worked examples with the sixth mode, in the fixed order of moves.

-- A client that reads all and writes some lets another in with `intention_read` by a copy, and keeps a read waiting.
abbrev pub whole_read_beside_intention_read : Worked
whole_read_beside_intention_read = record {
  script = record {
    version = 2;
    nodes = 2;
    sets = declared_set (codes "s") 0 ∷ [];
    clients = declared_client (codes "a") 0 ∷ declared_client (codes "b") 1 ∷ declared_client (codes "c") 1 ∷ [];
    commands =
        (0, Lock 0 ReadIntentionWrite) ∷
        (1, Lock 0 IntentionRead) ∷
        (2, Lock 0 Read) ∷
        (1, Unlock 0 IntentionRead) ∷
        (0, Unlock 0 ReadIntentionWrite) ∷
        (2, Unlock 0 Read) ∷
        [];
  };
  run =
      act 1 0 0 (Grant 0 0 ReadIntentionWrite ∷ []) ∷
      act 1 1 1 (Wait 1 0 IntentionRead ∷ []) ∷
      taken_at 2 0 1 (Copy 0 1 1 IntentionRead ∷ []) ∷
      taken_at 3 1 0 (Grant 1 0 IntentionRead ∷ []) ∷
      act 4 1 2 (Wait 2 0 Read ∷ []) ∷
      taken_at 5 0 1 (Freeze 0 1 1 (modes_in (IntentionWrite ∷ ReadIntentionWrite ∷ Write ∷ [])) ∷ []) ∷
      taken_at 6 1 0 [] ∷
      act 6 0 0 (Unlocked 0 0 ReadIntentionWrite ∷ Token 0 1 1 ∷ []) ∷
      taken_at 7 1 0 (Grant 2 0 Read ∷ []) ∷
      act 8 1 1 (Unlocked 1 0 IntentionRead ∷ []) ∷
      act 9 1 2 (Unlocked 2 0 Read ∷ []) ∷
      [];
  held = [];
  waiting = [];
  owners = owner 1 1 ∷ [];
}

-- A change from `upgrade` waits until the reads are gone, and later makes way for a writer of another part.
abbrev pub upgrade_to_sixth : Worked
upgrade_to_sixth = record {
  script = record {
    version = 2;
    nodes = 2;
    sets = declared_set (codes "s") 0 ∷ [];
    clients = declared_client (codes "a") 0 ∷ declared_client (codes "b") 1 ∷ declared_client (codes "c") 0 ∷ [];
    commands =
        (0, Lock 0 Upgrade) ∷
        (1, Lock 0 Read) ∷
        (0, Change 0 Upgrade ReadIntentionWrite) ∷
        (2, Lock 0 IntentionWrite) ∷
        (1, Unlock 0 Read) ∷
        (0, Change 0 ReadIntentionWrite IntentionWrite) ∷
        (0, Unlock 0 IntentionWrite) ∷
        (2, Unlock 0 IntentionWrite) ∷
        [];
  };
  run =
      act 1 0 0 (Grant 0 0 Upgrade ∷ []) ∷
      act 1 1 1 (Wait 1 0 Read ∷ []) ∷
      taken_at 2 0 1 (Copy 0 1 1 Read ∷ []) ∷
      taken_at 3 1 0 (Grant 1 0 Read ∷ []) ∷
      act 3 0 2 (Wait 2 0 IntentionWrite ∷ Freeze 0 1 1 (modes_in (Read ∷ Upgrade ∷ ReadIntentionWrite ∷ Write ∷ [])) ∷ []) ∷
      taken_at 4 1 0 [] ∷
      act 4 0 0 (Wait 0 0 ReadIntentionWrite ∷ Freeze 0 1 2 (modes_in (Read ∷ Upgrade ∷ IntentionWrite ∷ ReadIntentionWrite ∷ Write ∷ [])) ∷ []) ∷
      taken_at 5 1 0 [] ∷
      act 6 1 1 (Unlocked 1 0 Read ∷ []) ∷
      taken_at 7 0 1 (Changed 0 0 Upgrade ReadIntentionWrite ∷ []) ∷
      act 8 0 0 (Changed 0 0 ReadIntentionWrite IntentionWrite ∷ Grant 2 0 IntentionWrite ∷ []) ∷
      act 9 0 2 (Unlocked 2 0 IntentionWrite ∷ []) ∷
      act 10 0 0 (Unlocked 0 0 IntentionWrite ∷ []) ∷
      [];
  held = [];
  waiting = [];
  owners = owner 0 0 ∷ [];
}
