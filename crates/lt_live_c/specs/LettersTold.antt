-- What C is told of the letters of nodes in processes of their own, in literals.
use Rattle.std.specs.Prelude.{◌≡◌, ◌≢◌, ◌<◌, ◌≤◌, ◌+◌, ◌⊎◌, ◌++◌, ◌∷◌, [], ℕ, List, Option, Some, None, length, take, drop, IsSome}
use Rattle.lt_modes.specs.State.{Letter}
use Rattle.lt_letters.specs.Causes.{IsCause}
use Rattle.lt_letters.specs.Spelling.{letter_bytes}
use Rattle.lt_letters.specs.declared.fault.Fault.{Fault}
use Rattle.lt_frames.specs.Causes.{BeginWithHead, BeginWithSealed, BeginWithFrame}
use Rattle.lt_frames.specs.Frames.{head_bytes, frame_bytes}
use Rattle.lt_frames.specs.Sealing.{seal_of}
use Rattle.lt_runner.specs.Choices.{misfit}
use Rattle.lt_apart.specs.Remote.{brought, given, me, nodes}
use Rattle.lt_apart.specs.Carrying.{wire_from, wire_to, frames, WaitsForMore}
use Rattle.lt_apart.specs.Faults.{BeginWithOne}
use Rattle.lt_live_c.specs.declared.content.Content.{Content}
use Rattle.lt_live_c.specs.declared.content.Content.TheVariants as contents
use Rattle.lt_live_c.specs.OwnNode.{OwnNode}
use Rattle.lt_live_c.specs.Nodes.{SendsFrames, Receives, sent_by, unsent}
use Rattle.lt_live_c.specs.NodeCalls.{AtNode}
use Rattle.lt_live_c.specs.Told.{IsOfKind}
use Rattle.lt_live_c.specs.NodesTold.{OfNode}

-- Letters that go out.

-- a call of `lockrun_send`: the node that it is for, what stood in `length` before and after it, and in the buffer
pub record SendCall : Type 0 where
  pub to : ℕ
  pub was : ℕ
  pub size : ℕ
  pub buffer : List ℕ
  pub buffer_now : List ℕ

abbrev pub AtSend : ℕ → SendCall → Option Content → Option Content → Type 0
AtSend code call old new =
    AtNode code call.to (SendsFrames code call.to call.was call.size call.buffer call.buffer_now) old new

-- this is so of each such call with this code, by the node before and after it
abbrev pub AfterSend : ℕ → (SendCall → OwnNode → OwnNode → Type 0) → Type 0
AfterSend code Told =
    (call : SendCall) (a : OwnNode) (new : Option Content) → AtSend code call (Some (contents.Node a)) new
    → OfNode new (Told call a)

-- one letter more was given out, and these bytes are its frame
abbrev pub IsNextFrame : ℕ → List ℕ → OwnNode → OwnNode → Type 0
IsNextFrame to bytes a b =
    (letter : Letter) × (given b.remote to ≡ given a.remote to ++ letter ∷ [])
    × (bytes ≡ frame_bytes a.remote.key (record {
      wire = wire_to a.remote to;
      number = length (given a.remote to);
      letter = letter;
    }))

-- what each code of `lockrun_send` says
pub record SendsTold : Type 0 where
  pub some : AfterSend 0 (λ call a b. 0 < call.size)
  pub within : AfterSend 0 (λ call a b. call.size ≤ length call.buffer)
  -- the bytes at the front of the buffer are the next frame, or that which found no room before
  pub frame : AfterSend 0 (λ call a b.
      unsent a call.to ≡ [] → IsNextFrame call.to (take call.size call.buffer_now) a b)
  pub waited : AfterSend 0 (λ call a b.
      unsent a call.to ≢ [] → take call.size call.buffer_now ≡ unsent a call.to)
  pub once : AfterSend 0 (λ call a b. unsent b call.to ≡ [])
  pub none_more : AfterSend 0 (λ call a b. unsent a call.to ≢ [] → given b.remote call.to ≡ given a.remote call.to)
  pub behind : AfterSend 0 (λ call a b. drop call.size call.buffer_now ≡ drop call.size call.buffer)
  -- the frame finds no room, and waits
  pub wants : AfterSend 7 (λ call a b. call.size ≡ length (unsent b call.to))
  pub no_room : AfterSend 7 (λ call a b. length call.buffer < call.size)
  pub kept : AfterSend 7 (λ call a b. unsent a call.to ≡ [] → IsNextFrame call.to (unsent b call.to) a b)
  pub still_kept : AfterSend 7 (λ call a b. unsent a call.to ≢ [] → unsent b call.to ≡ unsent a call.to)
  pub full_buffer : AfterSend 7 (λ call a b. call.buffer_now ≡ call.buffer)
  -- nothing waits
  pub all_given : AfterSend 1 (λ call a b.
      (sent_by b call.to ≡ given b.remote call.to) ⊎ (18446744073709551616 ≤ length (given b.remote call.to) + 1))
  pub nothing_unsent : AfterSend 1 (λ call a b. unsent b call.to ≡ [])
  pub nothing_given : AfterSend 1 (λ call a b. given b.remote call.to ≡ given a.remote call.to)
  pub length_stays : AfterSend 1 (λ call a b. call.size ≡ call.was)
  pub buffer_stays : AfterSend 1 (λ call a b. call.buffer_now ≡ call.buffer)
  -- the next letter has no frame
  pub long : AfterSend 45 (λ call a b. (letter : Letter) × ((rest : List Letter)
      × ((sent_by b call.to ≡ given b.remote call.to ++ letter ∷ rest) × (16777216 < length (letter_bytes letter)))))
  pub long_given : AfterSend 45 (λ call a b. given b.remote call.to ≡ given a.remote call.to)
  pub memory_given : AfterSend 3 (λ call a b. given b.remote call.to ≡ given a.remote call.to)
  pub memory_buffer : AfterSend 3 (λ call a b. call.buffer_now ≡ call.buffer)
  pub no_peer : AfterSend 4 (λ call a b. call.to < nodes a.remote → call.to ≢ me a.remote → ⊥)
  pub same : AfterSend 4 (λ call a b. b ≡ a)
  -- whatever the code
  pub others_given : (code : ℕ) → AfterSend code (λ call a b.
      (node : ℕ) → node ≢ call.to → given b.remote node ≡ given a.remote node)
  pub others_unsent : (code : ℕ) → AfterSend code (λ call a b.
      (node : ℕ) → node ≢ call.to → unsent b node ≡ unsent a node)
  pub brought_stays : (code : ℕ) → AfterSend code (λ call a b.
      (node : ℕ) → brought b.remote node ≡ brought a.remote node)
  pub log_stays : (code : ℕ) → AfterSend code (λ call a b.
      b.remote.station.runner.log.entries ≡ a.remote.station.runner.log.entries)
  pub sessions_stay : (code : ℕ) → AfterSend code (λ call a b. b.sessions ≡ a.sessions)
  pub others : (call : SendCall) → IsOfKind 4 (λ code old new. AtSend code call old new)
  pub only : (code : ℕ) → AfterSend code (λ call a b.
      (code ≡ 0) ⊎ ((code ≡ 1) ⊎ ((code ≡ 3) ⊎ ((code ≡ 4) ⊎ ((code ≡ 7) ⊎ (code ≡ 45))))))

-- Letters that come in.

-- a call of `lockrun_receive`: the node that the bytes come from, what stood in `used` before and after it, the bytes
pub record ReceiveCall : Type 0 where
  pub from : ℕ
  pub was : ℕ
  pub used : ℕ
  pub bytes : List ℕ

abbrev pub AtReceive : ℕ → ReceiveCall → Option Content → Option Content → Type 0
AtReceive code call old new = AtNode code call.from (Receives code call.from call.was call.used call.bytes) old new

-- this is so of each such call with this code, by the node before and after it
abbrev pub AfterReceive : ℕ → (ReceiveCall → OwnNode → OwnNode → Type 0) → Type 0
AfterReceive code Told =
    (call : ReceiveCall) (a : OwnNode) (new : Option Content) → AtReceive code call (Some (contents.Node a)) new
    → OfNode new (Told call a)

-- what is left of the bytes
abbrev pub behind_used : ReceiveCall → List ℕ
behind_used call = drop call.used call.bytes

-- the used bytes are the frames of the letters that came in, numbered on
abbrev pub CameIn : ReceiveCall → OwnNode → OwnNode → Type 0
CameIn call a b =
    (letters : List Letter) × (brought b.remote call.from ≡ brought a.remote call.from ++ letters)
    × (take call.used call.bytes
    ≡ frames a.remote.key (wire_from a.remote call.from) (length (brought a.remote call.from)) letters)

-- the code is not that of a number which is no other node's, nor that of a letter which fits no node
abbrev pub TakesFrames : ℕ → Type 0
TakesFrames code = (code ≢ 4) × (code ≢ 48)

-- what each code of `lockrun_receive` says
pub record ReceivesTold : Type 0 where
  pub within : (code : ℕ) → TakesFrames code → AfterReceive code (λ call a b. call.used ≤ length call.bytes)
  pub fits : (code : ℕ) → TakesFrames code → AfterReceive code (λ call a b. misfit a.remote.station.runner ≡ None)
  pub came_in : (code : ℕ) → TakesFrames code → AfterReceive code CameIn
  pub none_came : (code : ℕ) → TakesFrames code → AfterReceive code (λ call a b.
      call.used ≡ 0 → brought b.remote call.from ≡ brought a.remote call.from)
  pub waits : AfterReceive 0 (λ call a b. WaitsForMore (wire_from a.remote call.from) b.remote.far (behind_used call))
  -- why the next frame was refused
  pub memory : AfterReceive 3 (λ call a b.
      BeginWithFrame a.remote.key (wire_from a.remote call.from) (behind_used call))
  pub other_version : AfterReceive 40 (λ call a b. BeginWithHead (λ head. head.version ≢ 1) (behind_used call))
  pub other_service : AfterReceive 41 (λ call a b.
      BeginWithHead (λ head. head.wire.service ≢ a.remote.service) (behind_used call))
  pub other_node : AfterReceive 42 (λ call a b.
      BeginWithHead (λ head. head.wire.from ≢ call.from) (behind_used call)
      ⊎ BeginWithHead (λ head. head.wire.to ≢ me a.remote) (behind_used call))
  pub missing : AfterReceive 43 (λ call a b. BeginWithOne a.remote.key (wire_from a.remote call.from)
      (λ frame. length (brought b.remote call.from) < frame.number) (behind_used call))
  pub again : AfterReceive 44 (λ call a b. BeginWithOne a.remote.key (wire_from a.remote call.from)
      (λ frame. frame.number < length (brought b.remote call.from)) (behind_used call))
  pub long : AfterReceive 45 (λ call a b. BeginWithHead (λ head. 16777216 < head.length) (behind_used call))
  pub bad_seal : AfterReceive 46 (λ call a b. BeginWithSealed (wire_from a.remote call.from)
      (λ head text seal. seal ≢ seal_of a.remote.key (head_bytes head ++ text)) (behind_used call))
  pub no_letter : AfterReceive 47 (λ call a b. (fault : Fault) × BeginWithSealed (wire_from a.remote call.from)
      (λ head text seal. (seal ≡ seal_of a.remote.key (head_bytes head ++ text)) × IsCause fault text) (behind_used call))
  pub misfit : AfterReceive 48 (λ call a b. IsSome (misfit a.remote.station.runner))
  pub misfit_same : AfterReceive 48 (λ call a b. b ≡ a)
  pub misfit_used : AfterReceive 48 (λ call a b. call.used ≡ call.was)
  pub no_peer : AfterReceive 4 (λ call a b. call.from < nodes a.remote → call.from ≢ me a.remote → ⊥)
  pub same : AfterReceive 4 (λ call a b. b ≡ a)
  -- whatever the code
  pub station_stays : (code : ℕ) → AfterReceive code (λ call a b. b.remote.station ≡ a.remote.station)
  pub given_stays : (code : ℕ) → AfterReceive code (λ call a b.
      (node : ℕ) → given b.remote node ≡ given a.remote node)
  pub others_brought : (code : ℕ) → AfterReceive code (λ call a b.
      (node : ℕ) → node ≢ call.from → brought b.remote node ≡ brought a.remote node)
  pub unsent_stays : (code : ℕ) → AfterReceive code (λ call a b. (node : ℕ) → unsent b node ≡ unsent a node)
  pub sessions_stay : (code : ℕ) → AfterReceive code (λ call a b. b.sessions ≡ a.sessions)
  pub others : (call : ReceiveCall) → IsOfKind 4 (λ code old new. AtReceive code call old new)
  pub only : (code : ℕ) → AfterReceive code (λ call a b.
      (code ≡ 0) ⊎ ((code ≡ 3) ⊎ ((code ≡ 4) ⊎ ((40 ≤ code) × (code ≤ 48)))))
