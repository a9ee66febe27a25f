-- Runs whose lines tell conflicting locks, and runs whose lines don't tell what is held.
use Rattle.std.specs.Prelude.{[], ◌∷◌, codes}
use Rattle.lt_modes.specs.declared.mode.Mode.TheVariants.{IntentionRead, Read, Upgrade, IntentionWrite, Write}
use Rattle.lt_modes.specs.declared.command.Command.TheVariants.{Lock, Unlock}
use Rattle.lt_modes.specs.declared.event.Event.TheVariants.{Grant, Unlock as Unlocked, Wait, Token}
use Rattle.lt_modes.specs.declared.ask.Ask.{Ask}
use Rattle.lt_modes.specs.Script.{ScriptData}
use Rattle.lt_law_examples.specs.Worked.{declared_set, declared_client, act, taken_at}
use Rattle.lt_law_examples.specs.Snapshot.{stamp, new_ask}
use Rattle.lt_law_pinned.specs.Waits.{Faulty, IsExcluded, wait_untold, wait_told_early, other_mode_told, other_set_told, answer_told, nobody_told, somebody_told, nobody_in_way, own_lock_in_way, lock_elsewhere, lock_beside, refused_at_first, refused_at_second, given_at_second, refused_beside}

-- The second writer is granted its lock at the last move.
abbrev pub granted_at_last : Faulty
granted_at_last = record {
  script = record {
    version = 1;
    nodes = 1;
    sets = declared_set (codes "s") 0 ∷ [];
    clients = declared_client (codes "a") 0 ∷ declared_client (codes "b") 0 ∷ [];
    commands = (0, Lock 0 Write) ∷ (1, Lock 0 Write) ∷ [];
  };
  run = act 1 0 0 (Grant 0 0 Write ∷ []) ∷ act 2 0 1 (Grant 1 0 Write ∷ []) ∷ [];
}

-- Both writers are granted their locks at the first move.
abbrev pub granted_at_first : Faulty
granted_at_first = record granted_at_last { run = act 1 0 0 (Grant 0 0 Write ∷ Grant 1 0 Write ∷ []) ∷ [] }

-- The first move grants to a second client, which the script doesn't have, too: so nothing else is wrong.
abbrev pub stranger_at_first : Faulty
stranger_at_first = record {
  script = record {
    version = 1;
    nodes = 1;
    sets = declared_set (codes "s") 0 ∷ [];
    clients = declared_client (codes "a") 0 ∷ [];
    commands = (0, Lock 0 Write) ∷ [];
  };
  run = act 1 0 0 (Grant 0 0 Write ∷ Grant 1 0 Write ∷ []) ∷ [];
}

-- The last move does so.
abbrev pub stranger_at_last : Faulty
stranger_at_last = record {
  script = record stranger_at_first.script { commands = (0, Lock 0 IntentionRead) ∷ (0, Lock 0 Upgrade) ∷ [] };
  run = act 1 0 0 (Grant 0 0 IntentionRead ∷ []) ∷ act 2 0 0 (Grant 0 0 Upgrade ∷ Grant 1 0 Upgrade ∷ []) ∷ [];
}

-- The first move does so, and after the second one the locks agree.
abbrev pub stranger_midway : Faulty
stranger_midway = record {
  script = record stranger_at_first.script { commands = (0, Lock 0 Write) ∷ (0, Unlock 0 Write) ∷ [] };
  run = act 1 0 0 (Grant 0 0 Write ∷ Grant 1 0 IntentionRead ∷ []) ∷ act 2 0 0 (Unlocked 0 0 Write ∷ []) ∷ [];
}

-- The first and the third lock conflict; the second one agrees with both.
abbrev pub strangers_apart : Faulty
strangers_apart = record {
  script = record stranger_at_first.script { commands = (0, Lock 0 Read) ∷ [] };
  run = act 1 0 0 (Grant 0 0 Read ∷ Grant 1 0 IntentionRead ∷ Grant 2 0 IntentionWrite ∷ []) ∷ [];
}

-- Two clients of the script are granted locks of a set that it doesn't have.
abbrev pub set_of_strangers : Faulty
set_of_strangers = record granted_at_last { run = act 1 0 0 (Grant 0 0 Write ∷ Grant 0 7 Write ∷ Grant 1 7 Read ∷ []) ∷ [] }

-- The lock of the one client isn't told.
abbrev pub lock_untold : Faulty
lock_untold = record stranger_at_first { run = act 1 0 0 [] ∷ [] }

-- The lock is told twice.
abbrev pub lock_told_twice : Faulty
lock_told_twice = record stranger_at_first { run = act 1 0 0 (Grant 0 0 Write ∷ Grant 0 0 Write ∷ []) ∷ [] }

-- The second client locks the second set twice, and the second lock, at the last move, isn't told.
abbrev pub second_lock_untold : Faulty
second_lock_untold = record {
  script = record {
    version = 1;
    nodes = 1;
    sets = declared_set (codes "s") 0 ∷ declared_set (codes "t") 1 ∷ [];
    clients = declared_client (codes "a") 0 ∷ declared_client (codes "b") 0 ∷ [];
    commands = (1, Lock 1 Read) ∷ (1, Lock 1 Read) ∷ [];
  };
  run = act 1 0 1 (Grant 1 1 Read ∷ []) ∷ act 2 0 1 [] ∷ [];
}

-- The first lock isn't told before the second one is.
abbrev pub lock_told_late : Faulty
lock_told_late = record second_lock_untold { run = act 1 0 1 [] ∷ act 2 0 1 (Grant 1 1 Read ∷ Grant 1 1 Read ∷ []) ∷ [] }

-- Runs in which the token or an ask goes to a node that the script doesn't have, and one of a script without nodes.

-- There is no node, and so no token.
abbrev pub no_node : Faulty
no_node = record {
  script = record { version = 1; nodes = 0; sets = declared_set (codes "s") 0 ∷ []; clients = []; commands = [] };
  run = [];
}

-- The only client is on node 5 of two nodes, and at the last move the token leaves for it.
abbrev pub token_leaves : Faulty
token_leaves = record {
  script = record {
    version = 1;
    nodes = 2;
    sets = declared_set (codes "s") 0 ∷ [];
    clients = declared_client (codes "a") 5 ∷ [];
    commands = (0, Lock 0 Write) ∷ [];
  };
  run = act 1 5 0 (Wait 0 0 Write ∷ []) ∷ taken_at 2 0 5 (Token 0 5 1 ∷ []) ∷ [];
}

-- The token of the second set leaves, and that of the first stays.
abbrev pub second_token_leaves : Faulty
second_token_leaves = record {
  script = record token_leaves.script {
    sets = declared_set (codes "s") 0 ∷ declared_set (codes "t") 1 ∷ [];
    commands = (0, Lock 1 Write) ∷ [];
  };
  run = act 1 5 0 (Wait 0 1 Write ∷ []) ∷ taken_at 2 0 5 (Token 1 5 1 ∷ []) ∷ [];
}

-- clients on nodes 5, 1 and 0 of two nodes
abbrev pub by_hope : ScriptData
by_hope = record {
  version = 1;
  nodes = 2;
  sets = declared_set (codes "s") 0 ∷ declared_set (codes "t") 1 ∷ [];
  clients =
      declared_client (codes "a") 5 ∷
      declared_client (codes "b") 1 ∷
      declared_client (codes "c") 0 ∷
      [];
  commands = (0, Lock 0 Upgrade) ∷ (1, Lock 0 Write) ∷ (2, Lock 0 Read) ∷ [];
}

-- Node 0 hopes that the token will come to node 5, and sends its own ask there, while the token goes to node 1.
abbrev pub ask_leaves : Faulty
ask_leaves = record {
  script = by_hope;
  run =
      act 1 1 1 (Wait 1 0 Write ∷ []) ∷
      taken_at 2 0 1 (Token 0 1 1 ∷ []) ∷
      act 1 5 0 (Wait 0 0 Upgrade ∷ []) ∷
      taken_at 3 0 5 [] ∷
      act 4 0 2 (Wait 2 0 Read ∷ []) ∷
      [];
}

abbrev pub ask_that_leaves : Ask
ask_that_leaves = new_ask 2 Read (stamp 4 0)

-- The same in the second set.
abbrev pub second_ask_leaves : Faulty
second_ask_leaves = record {
  script = record by_hope { commands = (0, Lock 1 Upgrade) ∷ (1, Lock 1 Write) ∷ (2, Lock 1 Read) ∷ [] };
  run =
      act 1 1 1 (Wait 1 1 Write ∷ []) ∷
      taken_at 2 0 1 (Token 1 1 1 ∷ []) ∷
      act 1 5 0 (Wait 0 1 Upgrade ∷ []) ∷
      taken_at 3 0 5 [] ∷
      act 4 0 2 (Wait 2 1 Read ∷ []) ∷
      [];
}

-- Which runs aren't promised, by what is wrong in them.

-- locks of different clients conflict, or the lines don't tell what is held
pub record LocksExcluded : Type 0 where
  pub granted_at_last : IsExcluded granted_at_last
  pub granted_at_first : IsExcluded granted_at_first
  pub stranger_at_first : IsExcluded stranger_at_first
  pub stranger_at_last : IsExcluded stranger_at_last
  pub stranger_midway : IsExcluded stranger_midway
  pub strangers_apart : IsExcluded strangers_apart
  pub set_of_strangers : IsExcluded set_of_strangers
  pub lock_untold : IsExcluded lock_untold
  pub lock_told_twice : IsExcluded lock_told_twice
  pub second_lock_untold : IsExcluded second_lock_untold
  pub lock_told_late : IsExcluded lock_told_late

-- a set has no token, or an ask stands nowhere
pub record PlacesExcluded : Type 0 where
  pub no_node : IsExcluded no_node
  pub token_leaves : IsExcluded token_leaves
  pub second_token_leaves : IsExcluded second_token_leaves
  pub ask_leaves : IsExcluded ask_leaves
  pub second_ask_leaves : IsExcluded second_ask_leaves

-- the lines don't tell who waits
pub record WaitsExcluded : Type 0 where
  pub wait_untold : IsExcluded wait_untold
  pub wait_told_early : IsExcluded wait_told_early
  pub other_mode_told : IsExcluded other_mode_told
  pub other_set_told : IsExcluded other_set_told
  pub answer_told : IsExcluded answer_told
  pub nobody_told : IsExcluded nobody_told
  pub somebody_told : IsExcluded somebody_told

-- at rest nobody is in the way of the first waiter
pub record RestsExcluded : Type 0 where
  pub nobody_in_way : IsExcluded nobody_in_way
  pub own_lock_in_way : IsExcluded own_lock_in_way
  pub lock_elsewhere : IsExcluded lock_elsewhere
  pub lock_beside : IsExcluded lock_beside

-- a `try` is told wrongly
pub record TriesExcluded : Type 0 where
  pub refused_at_first : IsExcluded refused_at_first
  pub refused_at_second : IsExcluded refused_at_second
  pub given_at_second : IsExcluded given_at_second
  pub refused_beside : IsExcluded refused_beside
