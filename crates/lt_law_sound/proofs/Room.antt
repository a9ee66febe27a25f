-- A sound node has room for its next move.
use Rattle.std.proofs.Common.{◌≡◌, ℕ, zero, suc, ◌+◌, ◌<◌, ◌≤◌, length, Option, Some, None, Bool, true, false, refl, sym, ap, arith, ◌∙◌, ◌==◌, ◌||◌, not, nat_lt, IsTrue, le-leb, lt-ltb}
use Rattle.std.proofs.lemmas.Bool.{and_parts, and_from}
use Rattle.lt_modes.specs.Script.{ScriptData, SetData}
use Rattle.lt_modes.specs.State.{SetState, Desk}
use Rattle.lt_modes.specs.Modes.{locks_of}
use Rattle.lt_modes.specs.Fits.{has_client, head_fits, numbers_of}
use Rattle.lt_modes.specs.Sound.{SoundDesk}
use Rattle.lt_lists.specs.Below.{any_below, sum_below}
use Rattle.lt_lists.proofs.Members.{few_filtered}
use Rattle.lt_spec.specs.NodeMove.{home, family, related, NodeState, locks_in_sets, command_if}
use Rattle.lt_spec.specs.Limits.{desk_within, set_within, node_within, leaves_ask, leaves_asks}
use Rattle.lt_spec.specs.Script.{IsScript}
use Rattle.lt_spec.specs.declared.limits.TheConstants.{MAX_CLIENTS_OF_NODE, MAX_COMMANDS_OF_SERVICE}
use Rattle.lt_model.specs.Invariant.{SoundNode}
use Rattle.lt_model.proofs.CountMove.{sum_places}
use Rattle.lt_law_invariant.proofs.FittingLetters.{few_each}
use Rattle.lt_law_invariant.proofs.FewAsks.{few_here, few_pending, few_locks}
use Rattle.lt_node.proofs.TouchedLemmas.{room_to_act, room_to_take}
use Rattle.lt_law_sound.specs.SoundLaws.{MadeOnlyTheirs, RoomForCommands, RoomForTakes}
use Rattle.lt_law_sound.proofs.SoundParts.{rows_at_home, own_asks}
use Rattle.lt_law_sound.proofs.TakeMoves.{head_told}

is_not : (b : Bool) → not b ≡ true → b ≡ false
is_not true e = sym e
is_not false e = refl

-- none of the numbers below n fails
no_failure : (n : ℕ) (test : ℕ → Bool) → ((k : ℕ) → k < n → test k ≡ true) → not (any_below n (λ k. not (test k))) ≡ true
no_failure zero test h = refl
no_failure (suc n) test h = rw (h n (omega arith), is_not (any_below n (λ k. not (test k))) (no_failure n test (λ k below. h k (omega (arith, below))))) refl

desk_timed : (script : ScriptData) (clock : ℕ) (t : SetState) (o : Option Desk) → SoundDesk (numbers_of script) false false clock t o → desk_within clock o ≡ true
desk_timed script clock t None h = refl
desk_timed script clock t (Some desk) h = and_from _ _ (le-leb _ _ h.1) (le-leb _ _ h.2)

-- what a sound node keeps is within the limits
sound_within : (script : ScriptData) (q : ℕ) (n : NodeState) → IsScript script → SoundNode script q n → MadeOnlyTheirs script n → IsTrue (node_within script n)
sound_within script q n known h made =
    no_failure (length script.sets) (λ s. set_within n.clock (n.set s))
    (λ s under.
    let sound = h.sets s under in
    and_from _ _ (le-leb _ _ (few_locks script q s n known h.clients made (rows_at_home script q n.clock (n.set s) sound) under))
    (and_from _ _ (le-leb _ _ (few_here script q (n.set s) known sound.here sound.apart)) (desk_timed script n.clock (n.set s) (n.set s).desk sound.desk)))

-- a client has an ask in each set, or may have one
leaves_by : (client : ℕ) (t : SetState) (has : Bool) → has_client client t.pending ≡ has
    → (has_client client t.pending ≡ false → length t.pending < MAX_CLIENTS_OF_NODE) → leaves_ask client t ≡ true
leaves_by client t true e room = ap (λ (b : Bool). b || nat_lt (length t.pending) MAX_CLIENTS_OF_NODE) e
leaves_by client t false e room = ap (λ (b : Bool). b || nat_lt (length t.pending) MAX_CLIENTS_OF_NODE) e ∙ lt-ltb _ _ (room e)

sound_leaves : (script : ScriptData) (q client : ℕ) (n : NodeState) → IsScript script → SoundNode script q n → client < length script.clients
    → home script client ≡ q → IsTrue (leaves_asks script n client)
sound_leaves script q client n known h declared own =
    no_failure (length script.sets) (λ s. leaves_ask client (n.set s))
    (λ s under. leaves_by client (n.set s) (has_client client (n.set s).pending) refl
    (few_pending script q s client n known (few_each (n.set s).pending (h.sets s under).one_ask)
    (own_asks script q n.clock (n.set s) (h.sets s under)) under declared own))

-- a client has no more locks in a family than a service has commands
sound_drops : (script : ScriptData) (q : ℕ) (n : NodeState) → IsScript script → SoundNode script q n → MadeOnlyTheirs script n
    → (c s : ℕ) → locks_in_sets n c (related script s) ≤ MAX_COMMANDS_OF_SERVICE
sound_drops script q n known h made c s =
    let locks : ℕ → ℕ = λ t. locks_of (n.set t).held c in
    let part = sum_places (λ k (set : SetData). set.family == family script s) locks 0 script.sets in
    let same : sum_below (0 + length script.sets) locks ≡ sum_below (length script.sets) locks = ap (λ (m : ℕ). sum_below m locks) (omega arith) in
    omega (arith, part, same, h.clients.counts c, made c, few_filtered (command_if c) script.commands, known.few_commands)

pub room_for_commands : RoomForCommands
room_for_commands script q client n known h made may =
    room_to_act script n client known (sound_within script q n known h made)
    (sound_leaves script q client n known h may.known may.own) (sound_drops script q n known h made)

pub room_for_takes : RoomForTakes
room_for_takes script q n letter known h made fit =
    let head = head_told script n.clock letter (and_parts (head_fits (numbers_of script) n.clock letter) _ fit).0 in
    room_to_take script n letter (sound_within script q n known h made) head.set
