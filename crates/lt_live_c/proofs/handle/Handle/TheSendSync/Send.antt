use base.Shift.{Keyless}
use Rattle.std.specs.Prelude.{Option, Some, None}
use mir.Raw.{raw}
use denote.RawPtr.{Ptr}
use Rattle.std.specs.Global.{Global}
use denote.Memory.{lone}
use denote.Struct.Struct.{exits_of}
use denote.Struct.Owning.{shape, fields, to}
use denote.Param.Send.{IsSend, AllSend, owning_send, struct_send, sendable}
use Rattle.std.proofs.Crossing as heap
use Rattle.std_alloc.proofs.SendSync.{quiet, lies}
use Rattle.std_heap.proofs.Global.TheSendSync as handle
use Rattle.lt_live_c.specs.contracts.content.Content as Thing
use Rattle.lt_live_c.proofs.content.Content.TheSendSync.{the_send as thing}
use Rattle.lt_live_c.specs.contracts.handle.Handle.{the_row, the_type}
use Rattle.lt_live_c.specs.Handles.{handle_owns}

keyless : (alloc : Global) (p : Ptr) (o : Option Thing.the_row.Denot) → Keyless (handle_owns alloc p o)
keyless alloc p None = tt
keyless alloc p (Some x) = (lies Thing.the_row thing p x, heap.frees.frees alloc (raw (lone Thing.the_row.mir)) p)

pub send : IsSend the_row
send =
    let all : AllSend (fields the_type) = (search sendable, (handle.the_field_send, tt)) in
    owning_send the_type all (λ d. keyless d.alloc d.at d.value)
    (λ k. quiet (to the_type) (exits_of k (fields the_type)) ((struct_send (shape the_type) all).leaving k))
