-- A node in a process of its own, as C has it.
use Rattle.std.specs.Prelude.{ℕ, List, Vec}
use Rattle.std.specs.Global.{Global}
use Rattle.lt_live.specs.declared.ends.Session.{Session}
use Rattle.lt_apart.specs.Remote.{RemoteData}

-- the node, those of its sessions that weren't taken, and for each node the bytes of a frame that was given out and
-- found no room
pub record OwnNode : Type 0 where
  pub remote : RemoteData
  pub sessions : List Session
  pub ready : List (Vec ℕ Global)
