-- A node after any list of its own moves.
use Rattle.std.proofs.Common.{ℕ, ◌+◌, ◌<◌, inl, inr, List, [], ◌∷◌, length, ap, arith, ltb-true}
use Rattle.std.proofs.lemmas.Bool.{cases_eq, and_parts}
use Rattle.lt_modes.specs.Script.{ScriptData}
use Rattle.lt_lists.proofs.Puts.{put-same, put-other}
use Rattle.lt_spec.specs.NodeMove.{commands_of, NodeState, is_free_at, has_command, next_command, act_stamp, at_clock, one_made, IsWhole}
use Rattle.lt_spec.specs.World.{start}
use Rattle.lt_model.specs.Invariant.{SoundNode}
use Rattle.lt_law_invariant.proofs.FewAsks.{whole}
use Rattle.lt_law_sound.specs.SoundLaws.{CanCommand, MadeOnlyTheirs, OwnMove, Commands, Takes, MayMove, moved_by, after_own, MayMakeAll, OwnMovesKeepSound, OwnMovesHaveRoom}
use Rattle.lt_law_sound.proofs.NodeMoves.{commands_keep_sound, takes_keep_sound, sound_at_start}
use Rattle.lt_law_sound.proofs.MadeCounts.{obey_counts}
use Rattle.lt_law_sound.proofs.Room.{room_for_commands, room_for_takes}

-- the node is sound, and no client made more commands than it has
record Going (script : ScriptData) (q : ℕ) (n : NodeState) : Type 0 where
  sound : SoundNode script q n
  made : MadeOnlyTheirs script n

command_counts : (script : ScriptData) (q client : ℕ) (n : NodeState) → CanCommand script q n client → MadeOnlyTheirs script n
    → MadeOnlyTheirs script (moved_by script q n (Commands client))
command_counts script q client n may h c =
    let begun = one_made client (at_clock (n.clock + 1) n) in
    let stays = obey_counts script (act_stamp q n) client (next_command script n client) begun c in
    let left = ltb-true (n.made client) (length (commands_of script client))
    (and_parts (is_free_at script n client) (has_command script n client) may.runnable).1 in
    elim (cases_eq c client) [
      | inl e ↦ omega (
        arith,
        stays,
        ap begun.made e,
        put-same n.made client (n.made client + 1),
        left,
        ap (λ (k : ℕ). length (commands_of script k)) e,
      )
      | inr d ↦ omega (arith, stays, put-other n.made client (n.made client + 1) c d, h c)
    ]

goes_on : (script : ScriptData) (q : ℕ) (n : NodeState) (move : OwnMove) → IsWhole script → q < script.nodes → MayMove script q n move → Going script q n
    → Going script q (moved_by script q n move)
goes_on script q n (Commands client) known below may h =
    record { sound = commands_keep_sound script q client n known h.sound may; made = command_counts script q client n may h.made }
goes_on script q n (Takes letter) known below may h =
    record { sound = takes_keep_sound script q letter n known below h.sound may; made = λ c. h.made c }

all_go : (script : ScriptData) (q : ℕ) (n : NodeState) (moves : List OwnMove) → IsWhole script → q < script.nodes → MayMakeAll script q n moves
    → Going script q n → Going script q (after_own script q n moves)
all_go script q n [] known below may h = h
all_go script q n (move ∷ rest) known below may h =
    all_go script q (moved_by script q n move) rest known below may.1 (goes_on script q n move known below may.0 h)

from_start : (script : ScriptData) (q : ℕ) (moves : List OwnMove) → IsWhole script → q < script.nodes
    → MayMakeAll script q ((start script).node q) moves → Going script q (after_own script q ((start script).node q) moves)
from_start script q moves known below may =
    all_go script q ((start script).node q) moves known below may
    (record { sound = sound_at_start script q known below; made = λ c. omega arith })

pub own_moves_keep_sound : OwnMovesKeepSound
own_moves_keep_sound script q moves known below may = (from_start script q moves known below may).sound

pub own_moves_have_room : OwnMovesHaveRoom
own_moves_have_room script q moves (Commands client) known below may next =
    let here = from_start script q moves (whole script known) below may in
    room_for_commands script q client _ known here.sound here.made next
own_moves_have_room script q moves (Takes letter) known below may next =
    let here = from_start script q moves (whole script known) below may in
    room_for_takes script q _ letter known here.sound here.made next
